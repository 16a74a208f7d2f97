-- Answers to the goals of `begin`.
use Rattle.std.proofs.Common.{arith}
use Rattle.run_tests.proofs.runs.begin.Goals as goal

pub returns-clause-in_step : goal.returns-clause-in_step
returns-clause-in_step g c = λ workload is. c.in_ok-scheduler.ensures.in_step workload (record {
  count = omega (arith, c.len-count.ensures, is.count);
  deps = is.deps;
  is_made = is.is_made;
  slots = is.slots;
  keep_going = is.keep_going;
})

pub returns-clause-runs : goal.returns-clause-runs
returns-clause-runs g c = omega (arith, c.in_ok-scheduler.ensures.runs, c.len-count.ensures)
