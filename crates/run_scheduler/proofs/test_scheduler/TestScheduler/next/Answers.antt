-- What remains to be proved of `next`.
use Rattle.std.proofs.Common.{arith, sym, ◌∙◌}
use Rattle.std.proofs.lemmas.List.{length-map}
use Rattle.run_spec.proofs.ChildLists.{no_children}
use Rattle.run_scheduler.specs.Rows.{run_count, tickets_of}
use Rattle.run_scheduler.proofs.SchedulerSteps.{next_in_step, next_waits, next_ends, start_is, finished_is}
use Rattle.run_scheduler.proofs.test_scheduler.TestScheduler.next.Goals as goal

pub returns-clause-in_step : goal.returns-clause-in_step
returns-clause-in_step c workload schedule is = c.step.ensures ∙ next_in_step c.args.self.now workload schedule is

pub returns-clause-within : goal.returns-clause-within
unfolding run_count
returns-clause-within c at is = (start_is c.args.self.now at (sym c.step.ensures ∙ is)).within

pub returns-clause-runs : goal.returns-clause-runs
unfolding tickets_of
returns-clause-runs c is = let some = (next_waits c.args.self.now (sym c.step.ensures ∙ is)).1 in omega (arith, some, length-map c.args.self.now.children.items (λ child. child.ticket))

pub returns-clause-idle : goal.returns-clause-idle
unfolding tickets_of
returns-clause-idle c is = no_children c.args.self.now.children.items (next_ends c.args.self.now (sym c.step.ensures ∙ is)).1

pub returns-clause-finished : goal.returns-clause-finished
returns-clause-finished c is workload schedule step = finished_is c.args.self.now workload schedule step (sym c.step.ensures ∙ is)
