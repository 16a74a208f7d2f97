-- Answers to the goals of `check_one`.
use Rattle.std.proofs.Common.{sym, ◌∙◌}
use Rattle.std.proofs.Math.ListN.{set}
use Rattle.std.proofs.lemmas.Bool.{cond-true, cond-false}
use Rattle.run_spec.specs.declared.statuses.FileStatus.TheVariants.{Fresh}
use Rattle.run_scheduler.proofs.NextSteps.{check_is, check_goes_on}
use Rattle.run_scheduler.proofs.MachineSteps.{check_free}
use Rattle.run_build.specs.UnderWay.{BuildState}
use Rattle.run_build.proofs.UnderWayThen.{check_made, checked_under_way, none_first_fault, still_recorded}
use Rattle.run_build.proofs.checks.check_one.Goals as goal

pub returns-then-fresh-clause-goes : goal.returns-then-fresh-clause-goes
returns-then-fresh-clause-goes g c = λ from events acknowledged first_fault broken is.
    let graph = c.args.graph.now in
    let state : BuildState = record { machine = c.args.scheduler.now; statuses = c.args.statuses.now.items; first_fault = first_fault; latest_of = g.K.Records.latest_of c.args.store.now; broken = broken } in
    let inside = c.requires.position in
    let free = check_free c.args.scheduler.now _ _ is.in_step c.args.at (check_is c.args.scheduler.now c.args.at c.requires.step) in
    let going = none_first_fault first_fault (sym is.halts ∙ check_goes_on c.args.scheduler.now c.args.at c.requires.step) in
    let says = still_recorded graph from events acknowledged state is c.args.at inside free.1 free.2 going c.is_current-fresh.result c.is_current-fresh.ensures in
    checked_under_way graph from events acknowledged state is c.args.at inside free.1 free.2 c.record_check.new.self c.is_current-fresh.result _ says free.0 c.record_check.ensures.checked c.record_check.ensures.stopped
    (sym (cond-true c.is_current-fresh.result (set c.args.statuses.now.items c.args.at Fresh) c.args.statuses.now.items c.if-fresh.true))
    (c.record_check.ensures.in_step _ _ is.in_step (says ∙ sym (check_made graph from events acknowledged state is c.args.at inside free.1 free.2)))

pub returns-else-fresh-clause-goes : goal.returns-else-fresh-clause-goes
returns-else-fresh-clause-goes g c = λ from events acknowledged first_fault broken is.
    let graph = c.args.graph.now in
    let state : BuildState = record { machine = c.args.scheduler.now; statuses = c.args.statuses.now.items; first_fault = first_fault; latest_of = g.K.Records.latest_of c.args.store.now; broken = broken } in
    let inside = c.requires.position in
    let free = check_free c.args.scheduler.now _ _ is.in_step c.args.at (check_is c.args.scheduler.now c.args.at c.requires.step) in
    let going = none_first_fault first_fault (sym is.halts ∙ check_goes_on c.args.scheduler.now c.args.at c.requires.step) in
    let says = still_recorded graph from events acknowledged state is c.args.at inside free.1 free.2 going c.is_current-fresh.result c.is_current-fresh.ensures in
    checked_under_way graph from events acknowledged state is c.args.at inside free.1 free.2 c.record_check.new.self c.is_current-fresh.result _ says free.0 c.record_check.ensures.checked c.record_check.ensures.stopped
    (sym (cond-false c.is_current-fresh.result (set c.args.statuses.now.items c.args.at Fresh) c.args.statuses.now.items c.if-fresh.false))
    (c.record_check.ensures.in_step _ _ is.in_step (says ∙ sym (check_made graph from events acknowledged state is c.args.at inside free.1 free.2)))
