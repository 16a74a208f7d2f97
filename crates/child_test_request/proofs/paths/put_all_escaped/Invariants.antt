-- What holds at each turn of the loop of `put_all_escaped`: the bytes so far are put.
use Rattle.std.proofs.Common.{◌≡◌, ◌++◌, take}
use Rattle.testbench_runs.specs.Runs.{escaped}
use Rattle.child_test_request.proofs.paths.put_all_escaped.Given as goal

abbrev pub invariant-loop-byte : goal.invariant-loop-byte
invariant-loop-byte l = l.out.items ≡ l.fn.out.items ++ escaped (take l.byte-index l.name)
