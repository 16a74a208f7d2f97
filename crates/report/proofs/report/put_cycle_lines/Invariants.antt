-- What the loop of `put_cycle_lines` keeps: the lines of the files so far are put.
use Rattle.std.proofs.Common.{◌≡◌, ◌++◌, take}
use Rattle.std.specs.List.{flat_map}
use Rattle.report.specs.Texts.{cycle_line}
use Rattle.report.proofs.report.put_cycle_lines.Given as goal

abbrev pub invariant-loop-i : goal.invariant-loop-i
invariant-loop-i l = l.out.items ≡ l.fn.out.items ++ flat_map cycle_line (take l.i l.files)
