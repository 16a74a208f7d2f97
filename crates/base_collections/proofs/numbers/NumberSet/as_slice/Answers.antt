use Rattle.std.proofs.Common.{subst}
use Rattle.std.specs.Prelude.{◌≢◌, AllPairs}
use Rattle.base_collections.specs.Numbers.{NumbersBelow}
use Rattle.base_collections.proofs.NumberedAdding.{once}
use Rattle.base_collections.proofs.numbers.NumberSet.as_slice.Goals as goal

pub returns-clause-once : goal.returns-clause-once
returns-clause-once c = subst (λ (s : NumbersBelow). AllPairs (λ a b. a ≢ b) s.numbers) c.self.view_is (once c.self.inside.indices.items c.self.inside.numbers.items c.self.invariant)
