-- What holds at each turn of the loop of `run_tests`: the runs are under way.
use Rattle.std.proofs.Common.{◌≡◌, false, length}
use Rattle.std.specs.Prelude.{is_some}
use Rattle.outside.specs.FaultCounts.{child_counts}
use Rattle.run_scheduler.specs.Rows.{tickets_of, run_count, to_come}
use Rattle.run_tests.specs.Requests.{borrowed_files}
use Rattle.run_spec.specs.Faults.{CountsBy}
use Rattle.run_tests.specs.UnderWay.{GoesOn, tests_with}
use Rattle.run_tests.proofs.runs.run_tests.Given as goal

abbrev pub invariant-loop-at : goal.invariant-loop-at
invariant-loop-at g l = record {
  going : GoesOn g.P.Procs.tells (g.P.Procs.answer l.fn.procs) (tests_with l.runs l.simulator (borrowed_files (g.K.Records.latest_of l.store) l.graph) l.fn.limit l.fn.fail_fast) (g.P.Procs.journal l.fn.procs)
      l.scheduler l.found.items (is_some l.first_fault) (g.P.Procs.journal l.procs) g.R.PassRecorder.records (g.R.PassRecorder.passes l.fn.recorder) (g.R.PassRecorder.passes l.recorder);
  running : g.P.Procs.running l.procs ≡ tickets_of l.scheduler;
  same : g.P.Procs.answer l.procs ≡ g.P.Procs.answer l.fn.procs;
  runs : run_count l.scheduler ≡ length l.runs;
  found : length l.found.items ≡ length l.runs;
  over : g.R.PassRecorder.pass_with l.recorder ≡ g.R.PassRecorder.pass_with l.fn.recorder;
  went : g.R.PassRecorder.went l.fn.recorder l.recorder;
  usable : is_some l.first_fault ≡ false → g.R.PassRecorder.is_broken l.recorder ≡ false;
  counts : CountsBy l.first_fault false
      (record { children = child_counts g.P.Procs l.fn.procs; disks = g.R.PassRecorder.failed_calls l.fn.recorder })
      (record { children = child_counts g.P.Procs l.procs; disks = g.R.PassRecorder.failed_calls l.recorder });
}

abbrev pub decreases-loop-at : goal.decreases-loop-at
decreases-loop-at g l = to_come l.scheduler
