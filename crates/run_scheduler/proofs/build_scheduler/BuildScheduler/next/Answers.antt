-- What remains to be proved of `next`.
use Rattle.std.proofs.Common.{arith, sym, ◌∙◌}
use Rattle.std.proofs.lemmas.List.{length-map}
use Rattle.run_spec.proofs.ChildLists.{no_children}
use Rattle.run_scheduler.specs.Machines.{is_stopped_in, tickets_of}
use Rattle.run_scheduler.proofs.NextSteps.{check_is, start_is, wait_runs, end_runs}
use Rattle.run_scheduler.proofs.MachineSteps.{check_free, run_in_step, finished_is, unchecked_idle}
use Rattle.run_scheduler.proofs.build_scheduler.BuildScheduler.next.Goals as goal

pub returns-clause-in_step : goal.returns-clause-in_step
returns-clause-in_step c workload schedule step is h = run_in_step c.args.self.now workload schedule step is (sym c.step.ensures ∙ h)

pub returns-clause-free : goal.returns-clause-free
returns-clause-free c workload schedule step at h = let free = check_free c.args.self.now workload schedule step at (check_is c.args.self.now at (sym c.step.ensures ∙ h)) in (free.1, free.2)

pub returns-clause-checks : goal.returns-clause-checks
returns-clause-checks c at h = (check_is c.args.self.now at (sym c.step.ensures ∙ h)).within

pub returns-clause-starts : goal.returns-clause-starts
returns-clause-starts c at h = (start_is c.args.self.now at (sym c.step.ensures ∙ h)).within

pub returns-clause-runs : goal.returns-clause-runs
unfolding tickets_of
returns-clause-runs c h = let some = wait_runs c.args.self.now (sym c.step.ensures ∙ h) in omega (arith, length-map c.args.self.now.children.items (λ child. child.ticket))

pub returns-clause-idle : goal.returns-clause-idle
unfolding tickets_of
returns-clause-idle c h = no_children c.args.self.now.children.items (end_runs c.args.self.now (sym c.step.ensures ∙ h))

pub returns-clause-finished : goal.returns-clause-finished
returns-clause-finished c h workload schedule step = finished_is c.args.self.now workload schedule step (sym c.step.ensures ∙ h)

pub returns-clause-unchecked : goal.returns-clause-unchecked
returns-clause-unchecked c workload schedule step on is h at lt new = unchecked_idle c.args.self.now workload schedule step is on (sym c.step.ensures ∙ h) at lt new

pub returns-clause-ready : goal.returns-clause-ready
returns-clause-ready c workload schedule step at lt is = step.free at (omega (arith, lt, step.count)) is

pub returns-clause-goes_on : goal.returns-clause-goes_on
unfolding is_stopped_in
returns-clause-goes_on c at h = (check_is c.args.self.now at (sym c.step.ensures ∙ h)).goes_on
