use Rattle.std.proofs.Common.{[], ◌∷◌}
use Rattle.std.proofs.lemmas.Result.{IfOk-weaker}
use Rattle.store_journal.specs.Steps.{making, write_step, cut_step}
use Rattle.store_journal.proofs.Runs.{went_then}
use Rattle.store_journal.proofs.Went.{went_once}
use Rattle.store_journal.proofs.Made.{from_second, from_third, from_fourth, made_by}
use Rattle.store_journal.proofs.making.make_side.Goals as goal

pub returns-in_err-cut_durably-clause-steps : goal.returns-in_err-cut_durably-clause-steps
unfolding making
returns-in_err-cut_durably-clause-steps g c = λ told.
    let moments = g.D.Disk.moments in
    let old = moments c.args.disk.now in
    let first = cut_step c.args.side old.now in
    went_once first (from_second c.args.side c.args.bytes.now first.after) old (moments c.cut_durably.new.disk) (c.cut_durably.ensures.moments told)

pub returns-in_err-write_durably-clause-steps : goal.returns-in_err-write_durably-clause-steps
unfolding making
returns-in_err-write_durably-clause-steps g c = λ told.
    let moments = g.D.Disk.moments in
    let old = moments c.args.disk.now in
    let emptied = moments c.cut_durably.new.disk in
    let dead = moments c.write_durably.new.disk in
    let second = write_step c.args.side 0 (0 ∷ []) emptied.now in
    went_then (cut_step c.args.side old.now) (from_second c.args.side c.args.bytes.now) old emptied dead (c.cut_durably.ensures.moments told) (c.in_ok-cut_durably.ensures.shortened told)
    (went_once second (from_third c.args.side c.args.bytes.now second.after) emptied dead (c.write_durably.ensures.moments told))

pub returns-in_err-write_durably-2-clause-steps : goal.returns-in_err-write_durably-2-clause-steps
unfolding making
returns-in_err-write_durably-2-clause-steps g c = λ told.
    let moments = g.D.Disk.moments in
    let old = moments c.args.disk.now in
    let emptied = moments c.cut_durably.new.disk in
    let dead = moments c.write_durably.new.disk in
    let full = moments c.write_durably-2.new.disk in
    let third = write_step c.args.side 1 c.args.bytes.now dead.now in
    went_then (cut_step c.args.side old.now) (from_second c.args.side c.args.bytes.now) old emptied full (c.cut_durably.ensures.moments told) (c.in_ok-cut_durably.ensures.shortened told)
    (went_then (write_step c.args.side 0 (0 ∷ []) emptied.now) (from_third c.args.side c.args.bytes.now) emptied dead full (c.write_durably.ensures.moments told) (c.in_ok-write_durably.ensures.written told)
    (went_once third (from_fourth c.args.side third.after) dead full (c.write_durably-2.ensures.moments told)))

pub returns-clause-steps : goal.returns-clause-steps
unfolding making
returns-clause-steps g c = λ told.
    let moments = g.D.Disk.moments in
    let old = moments c.args.disk.now in
    let emptied = moments c.cut_durably.new.disk in
    let dead = moments c.write_durably.new.disk in
    let full = moments c.write_durably-2.new.disk in
    let new = moments c.write_durably-3.new.disk in
    went_then (cut_step c.args.side old.now) (from_second c.args.side c.args.bytes.now) old emptied new (c.cut_durably.ensures.moments told) (c.in_ok-cut_durably.ensures.shortened told)
    (went_then (write_step c.args.side 0 (0 ∷ []) emptied.now) (from_third c.args.side c.args.bytes.now) emptied dead new (c.write_durably.ensures.moments told) (c.in_ok-write_durably.ensures.written told)
    (went_then (write_step c.args.side 1 c.args.bytes.now dead.now) (from_fourth c.args.side) dead full new (c.write_durably-2.ensures.moments told) (c.in_ok-write_durably-2.ensures.written told)
    (went_once (write_step c.args.side 0 (1 ∷ []) full.now) [] full new (c.write_durably-3.ensures.moments told))))

pub returns-clause-made : goal.returns-clause-made
returns-clause-made g c = λ told.
    let moments = g.D.Disk.moments in
    IfOk-weaker c.write_durably-3.result _ _
    (λ done fourth. made_by c.args.side c.args.bytes.now (moments c.args.disk.now).now (moments c.cut_durably.new.disk).now (moments c.write_durably.new.disk).now (moments c.write_durably-2.new.disk).now (moments c.write_durably-3.new.disk).now
    (c.in_ok-cut_durably.ensures.shortened told) (c.in_ok-write_durably.ensures.written told) (c.in_ok-write_durably-2.ensures.written told) fourth)
    (c.write_durably-3.ensures.written told)
