-- What the loops of `put_files` keep, and why they end.
use Rattle.std.proofs.Common.{◌≡◌, ◌++◌, drop}
use Rattle.report.specs.Texts.{files_text}
use Rattle.report.proofs.report.put_files.Given as goal

abbrev pub invariant-loop-i : goal.invariant-loop-i
invariant-loop-i l = l.out.items ++ files_text l.limit (drop l.i l.entries) (drop l.i l.statuses) ≡ l.fn.out.items ++ files_text l.limit l.entries l.statuses
