use Rattle.std.proofs.Common.{[], ◌∷◌}
use Rattle.std.proofs.lemmas.Result.{IfOk-weaker}
use Rattle.store_journal.specs.Steps.{making, emptying, write_step, cut_step}
use Rattle.store_journal.proofs.Runs.{went_then}
use Rattle.store_journal.proofs.Went.{went_once}
use Rattle.store_journal.proofs.Emptying.{from_dead, emptied_by}
use Rattle.store_journal.proofs.clearing.clear_sides.Goals as goal

pub returns-in_err-cut_durably-clause-steps : goal.returns-in_err-cut_durably-clause-steps
unfolding emptying
returns-in_err-cut_durably-clause-steps g c = λ told.
    let moments = g.D.Disk.moments in
    let old = moments c.args.disk.now in
    let first = cut_step c.args.other old.now in
    went_once first (from_dead c.args.live c.args.other c.args.bytes.now first.after) old (moments c.cut_durably.new.disk) (c.cut_durably.ensures.moments told)

pub returns-in_err-write_durably-clause-steps : goal.returns-in_err-write_durably-clause-steps
unfolding emptying
returns-in_err-write_durably-clause-steps g c = λ told.
    let moments = g.D.Disk.moments in
    let old = moments c.args.disk.now in
    let emptied = moments c.cut_durably.new.disk in
    let dead = moments c.write_durably.new.disk in
    let second = write_step c.args.live 0 (0 ∷ []) emptied.now in
    went_then (cut_step c.args.other old.now) (from_dead c.args.live c.args.other c.args.bytes.now) old emptied dead (c.cut_durably.ensures.moments told) (c.in_ok-cut_durably.ensures.shortened told)
    (went_once second (making c.args.live c.args.bytes.now second.after) emptied dead (c.write_durably.ensures.moments told))

pub returns-clause-steps : goal.returns-clause-steps
unfolding emptying
returns-clause-steps g c = λ told.
    let moments = g.D.Disk.moments in
    let old = moments c.args.disk.now in
    let emptied = moments c.cut_durably.new.disk in
    let dead = moments c.write_durably.new.disk in
    let new = moments c.make_side.new.disk in
    went_then (cut_step c.args.other old.now) (from_dead c.args.live c.args.other c.args.bytes.now) old emptied new (c.cut_durably.ensures.moments told) (c.in_ok-cut_durably.ensures.shortened told)
    (went_then (write_step c.args.live 0 (0 ∷ []) emptied.now) (making c.args.live c.args.bytes.now) emptied dead new (c.write_durably.ensures.moments told) (c.in_ok-write_durably.ensures.written told)
    (c.make_side.ensures.steps told))

pub returns-clause-made : goal.returns-clause-made
returns-clause-made g c = λ told.
    let moments = g.D.Disk.moments in
    IfOk-weaker c.make_side.result _ _
    (λ done made. emptied_by c.args.live c.args.other c.args.bytes.now (moments c.args.disk.now).now (moments c.cut_durably.new.disk).now (moments c.write_durably.new.disk).now (moments c.make_side.new.disk).now
    (c.in_ok-cut_durably.ensures.shortened told) (c.in_ok-write_durably.ensures.written told) made)
    (c.make_side.ensures.made told)
