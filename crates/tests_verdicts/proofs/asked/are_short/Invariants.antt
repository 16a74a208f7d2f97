-- The names so far, and the rest.
use Rattle.std.proofs.Common.{◌≡◌, ◌+◌, length, take}
use Rattle.std.specs.Prelude.{sum_by}
use Rattle.base.specs.declared.limits.TheConstants.{TEXT_LIMIT}
use Rattle.tests_verdicts.proofs.asked.are_short.Given as goal

abbrev pub invariant-loop-name : goal.invariant-loop-name
invariant-loop-name l = sum_by (λ name. length name) (take l.name-index l.names) + l.left ≡ TEXT_LIMIT
