-- What the loop of `put_cases` keeps: the lines of the cases so far are put.
use Rattle.std.proofs.Common.{◌≡◌, ◌++◌, take}
use Rattle.std.specs.Prelude.{zip}
use Rattle.std.specs.List.{flat_map}
use Rattle.report.specs.TestTexts.{case_line}
use Rattle.report.proofs.texts.put_cases.Given as goal

abbrev pub invariant-loop-i : goal.invariant-loop-i
invariant-loop-i l = l.out.items ≡ l.fn.out.items ++ flat_map (λ both. case_line both.0 both.1) (take l.i (zip l.names l.verdicts))
