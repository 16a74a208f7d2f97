use Rattle.std.proofs.Common.{ℕ, ◌-◌, length}
use Rattle.std.specs.Option.{option_map_or}
use Rattle.base_collections.proofs.Walking.{IsWalk}
use Rattle.base_collections.proofs.text_index.walk.Given as goal

abbrev pub invariant-loop-candidate : goal.invariant-loop-candidate
invariant-loop-candidate l = IsWalk l.splits l.text l.now l.candidate

abbrev pub decreases-loop-candidate : goal.decreases-loop-candidate
decreases-loop-candidate l = option_map_or (λ n. length l.splits - n) l.candidate 0
