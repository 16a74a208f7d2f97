-- A tree that tells nothing of what it holds.
use Rattle.std.specs.Prelude.{◌≡◌, ℕ, false, true, List, [], Option, None, Contains}
use Rattle.std.proofs.Common.{arith, refl}
use Rattle.std.proofs.lemmas.Bool.{both_ways}
use Rattle.outside.specs.Trees.{IsListOf, HoldsSame}

-- the file of each path, where none is told
abbrev pub no_file : List ℕ → Option (List ℕ)
no_file path = None

none_in : (path : List ℕ) → Contains [] path → ⊥
none_in path there = let below = there.1 in omega arith

none_is_not : false ≡ true → ⊥
none_is_not e = both_ways false refl e

-- where no file is told, none is listed
pub lists_nothing : IsListOf no_file []
lists_nothing = record {
  rising = tt;
  each = λ path. ((λ there. absurd (none_in path there)), (λ listed. absurd (none_is_not listed.0)));
}

-- where no file is told, the same is held and listed
pub untold_same : HoldsSame no_file no_file [] []
untold_same = record { files = refl; lists = refl }
