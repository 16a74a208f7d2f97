-- What the loop of `put_runs` keeps: the cases of the runs so far are put.
use Rattle.std.proofs.Common.{◌≡◌, ◌++◌, take}
use Rattle.std.specs.Prelude.{zip}
use Rattle.std.specs.List.{flat_map}
use Rattle.report.specs.Junit.{run_elements}
use Rattle.report.proofs.xml.put_runs.Given as goal

abbrev pub invariant-loop-i : goal.invariant-loop-i
invariant-loop-i l = l.out.items ≡ l.fn.out.items ++ flat_map (λ both. run_elements both.0 both.1) (take l.i (zip l.runs l.ends))
