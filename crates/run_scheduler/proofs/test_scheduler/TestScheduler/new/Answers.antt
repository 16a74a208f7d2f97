-- What remains to be proved of `new`.
use Rattle.std.proofs.Common.{refl, sym, ap, map}
use Rattle.base.specs.PresentGraph.{below}
use Rattle.run_spec.specs.Steps.{running_child}
use Rattle.run_scheduler.proofs.SchedulerSteps.{unmade_first}
use Rattle.run_scheduler.proofs.test_scheduler.TestScheduler.new.Goals as goal

pub returns-clause-in_step : goal.returns-clause-in_step
unfolding below
returns-clause-in_step c workload is = record {
  of_workload = is;
  halted = refl;
  running = sym (ap (map running_child) c.in_ok-children.ensures.items);
  taken = refl;
  unmade = λ at le. unmade_first workload c.args.count c.args.limit c.args.fail_fast is at;
}
