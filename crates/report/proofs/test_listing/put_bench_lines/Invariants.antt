-- What the loop of `put_bench_lines` keeps: the lines of the cases so far are put.
use Rattle.std.proofs.Common.{◌≡◌, ◌++◌, take}
use Rattle.std.specs.List.{flat_map}
use Rattle.report.specs.Listing.{test_line}
use Rattle.report.proofs.test_listing.put_bench_lines.Given as goal

abbrev pub invariant-loop-i : goal.invariant-loop-i
invariant-loop-i l = l.out.items ≡ l.fn.out.items ++ flat_map (test_line l.bench) (take l.i l.cases)
