-- What the loop of `put_value` keeps: with what the rest of the name gives after the last two bytes, the whole value is put.
use Rattle.std.proofs.Common.{◌≡◌, ◌++◌, drop}
use Rattle.report.specs.Junit.{value, value_after}
use Rattle.report.proofs.xml.put_value.Given as goal

abbrev pub invariant-loop-i : goal.invariant-loop-i
invariant-loop-i l = l.out.items ++ value_after l.first l.second (drop l.i l.name) ≡ l.fn.out.items ++ value l.name
