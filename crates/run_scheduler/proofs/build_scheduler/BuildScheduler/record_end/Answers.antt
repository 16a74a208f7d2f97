-- What remains to be proved of `ended`.
use Rattle.std.proofs.Common.{subst, sym, ap, ◌∙◌, true, false}
use Rattle.run_spec.specs.Moves.{Ends, after_move}
use Rattle.run_scheduler.specs.Machines.{IsMachineOf}
use Rattle.run_spec.specs.Steps.{without_ticket}
use Rattle.run_spec.proofs.PlainSteps.{ends_as, lawful_end}
use Rattle.run_scheduler.proofs.MachineSteps.{greedy_end}
use Rattle.run_scheduler.proofs.build_scheduler.BuildScheduler.record_end.Goals as goal

pub returns-then-ok-clause-greedy : goal.returns-then-ok-clause-greedy
returns-then-ok-clause-greedy c workload schedule output step waits = greedy_end c.args.self.now workload schedule step waits

pub returns-else-ok-clause-greedy : goal.returns-else-ok-clause-greedy
returns-else-ok-clause-greedy c workload schedule output step waits = greedy_end c.args.self.now workload schedule step waits

pub returns-then-ok-clause-in_step : goal.returns-then-ok-clause-in_step
returns-then-ok-clause-in_step c workload schedule output step =
    subst (IsMachineOf _ workload) (ends_as workload schedule c.args.ticket c.end_child-at.result true output (c.end_child-at.ensures.position workload schedule step) ∙ ap (λ ok. after_move workload schedule (Ends c.args.ticket ok output)) (sym c.if-ok.true))
    (c.make.ensures.in_step workload (without_ticket c.args.ticket schedule) output (c.end_child-at.ensures.in_step workload schedule step) (c.end_child-at.ensures.checked workload schedule step))

pub returns-else-ok-clause-in_step : goal.returns-else-ok-clause-in_step
returns-else-ok-clause-in_step c workload schedule output step =
    subst (IsMachineOf _ workload) (ends_as workload schedule c.args.ticket c.end_child-at.result false output (c.end_child-at.ensures.position workload schedule step) ∙ ap (λ ok. after_move workload schedule (Ends c.args.ticket ok output)) (sym c.if-ok.false))
    (c.refuse.ensures.in_step workload (without_ticket c.args.ticket schedule) c.end_child-at.result output (c.end_child-at.ensures.in_step workload schedule step))

pub returns-then-ok-clause-lawful : goal.returns-then-ok-clause-lawful
returns-then-ok-clause-lawful c workload schedule output step = lawful_end schedule c.args.ticket c.end_child-at.result (c.end_child-at.ensures.position workload schedule step)

pub returns-else-ok-clause-lawful : goal.returns-else-ok-clause-lawful
returns-else-ok-clause-lawful c workload schedule output step = lawful_end schedule c.args.ticket c.end_child-at.result (c.end_child-at.ensures.position workload schedule step)

pub returns-then-ok-clause-here : goal.returns-then-ok-clause-here
returns-then-ok-clause-here c workload schedule step = sym (c.end_child-at.ensures.same c.end_child-at.result) ∙ c.end_child-at.ensures.checked workload schedule step

pub returns-else-ok-clause-here : goal.returns-else-ok-clause-here
returns-else-ok-clause-here c workload schedule step = sym (c.end_child-at.ensures.same c.end_child-at.result) ∙ c.end_child-at.ensures.checked workload schedule step
