-- What the loop of `run_tally` keeps: the counts of the verdicts so far, of which none is more than all of these.
use Rattle.std.proofs.Common.{◌≡◌, ◌≤◌, take}
use Rattle.std.specs.Prelude.{count_by}
use Rattle.testbench_runs.specs.Verdicts.{is_passed_verdict}
use Rattle.report.specs.Counts.{is_failed_verdict, is_skipped_verdict}
use Rattle.report.proofs.tally.run_tally.Given as goal

abbrev pub invariant-loop-i : goal.invariant-loop-i
invariant-loop-i l =
    (l.passed ≡ count_by is_passed_verdict (take l.i l.verdicts)) × (l.failed ≡ count_by is_failed_verdict (take l.i l.verdicts)) × (l.skipped ≡ count_by is_skipped_verdict (take l.i l.verdicts))
    × (l.passed ≤ l.i) × (l.failed ≤ l.i) × (l.skipped ≤ l.i)
