-- What the loop of `count_tests` keeps: the count is that of the benches so far, and the lines are bytes in memory.
use Rattle.std.proofs.Common.{◌≡◌, ◌<◌, ◌^◌, length, take}
use Rattle.testbench_select.specs.Selection.{count_of_tests}
use Rattle.report.proofs.test_listing.count_tests.Given as goal

abbrev pub invariant-loop-i : goal.invariant-loop-i
invariant-loop-i l = (l.count ≡ count_of_tests (take l.i l.tests)) × (length l.lines < 2 ^ 64)
