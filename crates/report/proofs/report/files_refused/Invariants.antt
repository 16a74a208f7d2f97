-- What the loops of `files_refused` keep, and why they end.
use Rattle.std.proofs.Common.{◌≡◌, ◌++◌, drop}
use Rattle.run_spec.specs.Statuses.{refused_files}
use Rattle.report.proofs.report.files_refused.Given as goal

abbrev pub invariant-loop-i : goal.invariant-loop-i
invariant-loop-i l = l.files ++ refused_files (drop l.i l.entries) (drop l.i l.statuses) ≡ refused_files l.entries l.statuses
