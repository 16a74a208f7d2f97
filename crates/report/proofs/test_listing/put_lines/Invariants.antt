-- What the loop of `put_lines` keeps: the lines of the benches so far are put.
use Rattle.std.proofs.Common.{◌≡◌, ◌++◌, take}
use Rattle.std.specs.List.{flat_map}
use Rattle.report.specs.Listing.{bench_lines}
use Rattle.report.proofs.test_listing.put_lines.Given as goal

abbrev pub invariant-loop-i : goal.invariant-loop-i
invariant-loop-i l = l.out.items ≡ l.fn.out.items ++ flat_map bench_lines (take l.i l.tests)
