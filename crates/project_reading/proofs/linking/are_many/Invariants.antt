-- What the loop of `are_many` keeps: `left` is how many cases may still come within the limit.
use Rattle.std.proofs.Common.{◌≡◌, ◌+◌, take}
use Rattle.base.specs.declared.limits.TheConstants.{CASE_LIMIT}
use Rattle.testbench_select.specs.Selection.{count_of_tests}
use Rattle.project_reading.proofs.linking.are_many.Given as goal

abbrev pub invariant-loop-i : goal.invariant-loop-i
invariant-loop-i l = l.left + count_of_tests (take l.i l.tests) ≡ CASE_LIMIT
