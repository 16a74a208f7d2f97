use Rattle.std.proofs.Common.{◌≡◌, ◌≢◌, ℕ, ◌∷◌, take}
use Rattle.std.specs.Prelude.{AllPairs}
use Rattle.store_table.specs.Checked.{dep_names}
use Rattle.store_table.proofs.checking.are_apart.Given as goal

abbrev pub invariant-loop-k : goal.invariant-loop-k
invariant-loop-k l = record {
  size : l.set.size ≡ l.fn.set.size;
  numbers : l.set.numbers ≡ l.name ∷ dep_names l.products.keys (take l.k l.deps);
  apart : AllPairs (λ (a b : ℕ). a ≢ b) (l.name ∷ dep_names l.products.keys (take l.k l.deps));
}
