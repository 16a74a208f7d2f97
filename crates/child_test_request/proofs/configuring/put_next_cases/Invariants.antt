-- What holds at each turn of the loop of `put_next_cases`: the names so far are put.
use Rattle.std.proofs.Common.{◌≡◌, ◌++◌, take}
use Rattle.std.specs.List.{flat_map}
use Rattle.child_test_request.specs.Written.{next_case}
use Rattle.child_test_request.proofs.configuring.put_next_cases.Given as goal

abbrev pub invariant-loop-name : goal.invariant-loop-name
invariant-loop-name l = l.out.items ≡ l.fn.out.items ++ flat_map next_case (take l.name-index l.names)
