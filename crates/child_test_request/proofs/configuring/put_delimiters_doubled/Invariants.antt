-- What holds at each turn of the loop of `put_delimiters_doubled`: the bytes so far are put.
use Rattle.std.proofs.Common.{◌≡◌, ◌++◌, take}
use Rattle.testbench_runs.specs.Configuration.{doubled, is_delimiter}
use Rattle.child_test_request.proofs.configuring.put_delimiters_doubled.Given as goal

abbrev pub invariant-loop-byte : goal.invariant-loop-byte
invariant-loop-byte l = l.out.items ≡ l.fn.out.items ++ doubled is_delimiter (take l.byte-index l.bytes)
