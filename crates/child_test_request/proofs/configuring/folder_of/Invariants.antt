-- What the loop of `folder_of` keeps, and why it ends.
use Rattle.std.proofs.Common.{◌≡◌, length, reverse}
use Rattle.testbench_runs.specs.Configuration.{from_slash}
use Rattle.child_test_request.proofs.configuring.folder_of.Given as goal

abbrev pub invariant-loop-rest : goal.invariant-loop-rest
invariant-loop-rest l = from_slash (reverse l.rest) ≡ from_slash (reverse l.path)

abbrev pub decreases-loop-rest : goal.decreases-loop-rest
decreases-loop-rest l = length l.rest
