-- What the loop of `put_case_elements` keeps: the cases so far are put.
use Rattle.std.proofs.Common.{◌≡◌, ◌++◌, take}
use Rattle.std.specs.Prelude.{zip}
use Rattle.std.specs.List.{flat_map}
use Rattle.report.specs.Junit.{case_element}
use Rattle.report.proofs.xml.put_case_elements.Given as goal

abbrev pub invariant-loop-i : goal.invariant-loop-i
invariant-loop-i l = l.out.items ≡ l.fn.out.items ++ flat_map (λ both. case_element l.run both.0 both.1) (take l.i (zip l.names l.verdicts))
