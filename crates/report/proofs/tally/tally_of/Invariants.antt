-- What the loop of `tally_of` keeps: the counts of the runs so far, and that a run has fewer than 2^64 cases.
use Rattle.std.proofs.Common.{◌≡◌, ◌*◌, ◌^◌, ◌≤◌, length, take}
use Rattle.std.specs.Prelude.{count_by}
use Rattle.testbench_runs.specs.Verdicts.{is_passed_verdict}
use Rattle.report.specs.Counts.{all_verdicts, is_failed_verdict, is_skipped_verdict}
use Rattle.report.proofs.tally.tally_of.Given as goal

abbrev pub invariant-loop-i : goal.invariant-loop-i
invariant-loop-i l =
    (l.total ≡ length (all_verdicts (take l.i l.runs))) × (l.passed ≡ count_by is_passed_verdict (all_verdicts (take l.i l.runs)))
    × (l.failed ≡ count_by is_failed_verdict (all_verdicts (take l.i l.runs))) × (l.skipped ≡ count_by is_skipped_verdict (all_verdicts (take l.i l.runs)))
    × (l.total ≤ l.i * 2 ^ 64) × (l.passed ≤ l.total) × (l.failed ≤ l.total) × (l.skipped ≤ l.total)
