use Rattle.std.proofs.Common.{◌≡◌, ap, sym, subst, ◌∙◌}
use Rattle.outside.specs.Disks.{DiskState, image_side, reads_of, side_of}
use Rattle.store_journal.specs.Journals.{EndsAt}
use Rattle.store_journal.proofs.Resting.{read_only, read_then, rests_healthy}
use Rattle.store_journal.proofs.Stays.{read_holds, read_holds_then}
use Rattle.store_journal.proofs.WindowLemmas.{side_reads}
use Rattle.store_journal.proofs.opening.open.Goals as goal

pub returns-in_err-found-clause-any_moment : goal.returns-in_err-found-clause-any_moment
returns-in_err-found-clause-any_moment g c = λ told.
    let moments = g.D.Disk.moments in
    read_only c.args.form (moments c.args.disk.now) (moments c.read_payloads.new.disk) (c.read_payloads.ensures.moments told) (c.requires.settled told)

pub returns-clause-any_moment : goal.returns-clause-any_moment
returns-clause-any_moment g c = λ told.
    let moments = g.D.Disk.moments in
    read_then c.args.form (moments c.args.disk.now) (moments c.read_payloads.new.disk) (moments c.finish_opening.new.disk) (c.read_payloads.ensures.moments told) (c.in_ok-found.ensures.same told) (c.requires.settled told) (c.finish_opening.ensures.any_moment told)

pub returns-clause-rests : goal.returns-clause-rests
returns-clause-rests g c = λ told.
    rests_healthy c.args.form c.finish_opening.result (g.D.Disk.moments c.args.disk.now) (g.D.Disk.moments c.read_payloads.new.disk) (g.D.Disk.moments c.finish_opening.new.disk) (c.read_payloads.ensures.moments told) (ap reads_of (c.in_ok-found.ensures.same told)) (c.finish_opening.ensures.rests told)

pub returns-in_err-found-clause-holds : goal.returns-in_err-found-clause-holds
returns-in_err-found-clause-holds g c = λ told.
    let moments = g.D.Disk.moments in
    read_holds (moments c.args.disk.now) (moments c.read_payloads.new.disk) (c.read_payloads.ensures.moments told) (c.requires.settled told)

pub returns-clause-holds : goal.returns-clause-holds
returns-clause-holds g c = λ told.
    let moments = g.D.Disk.moments in
    read_holds_then (moments c.args.disk.now) (moments c.read_payloads.new.disk) (moments c.finish_opening.new.disk) (c.read_payloads.ensures.moments told) (c.in_ok-found.ensures.same told) (c.requires.settled told) (c.finish_opening.ensures.holds told)

pub finish_opening-requires-clause-end : goal.finish_opening-requires-clause-end
finish_opening-requires-clause-end g c = λ told.
    let moments = g.D.Disk.moments in
    let side = c.args.live.side in
    let there : (side_of side (moments c.args.disk.now).now).reads ≡ image_side side (reads_of (moments c.read_payloads.new.disk).now) =
    sym (side_reads side (moments c.args.disk.now).now) ∙ ap (λ (d : DiskState). image_side side (reads_of d)) (sym (c.in_ok-found.ensures.same told)) in
    subst (EndsAt c.in_ok-found.found.len (g.T.Visitor.taken c.in_ok-found.found.payloads)) there (c.in_ok-found.ensures.end told)
