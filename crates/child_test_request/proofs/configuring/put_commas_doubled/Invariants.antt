-- What holds at each turn of the loop of `put_commas_doubled`: the bytes so far are put.
use Rattle.std.proofs.Common.{◌≡◌, ◌++◌, take}
use Rattle.testbench_runs.specs.Configuration.{doubled, is_comma}
use Rattle.child_test_request.proofs.configuring.put_commas_doubled.Given as goal

abbrev pub invariant-loop-byte : goal.invariant-loop-byte
invariant-loop-byte l = l.out.items ≡ l.fn.out.items ++ doubled is_comma (take l.byte-index l.bytes)
