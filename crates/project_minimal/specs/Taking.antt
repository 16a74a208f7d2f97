-- Files that are taken one after the other, each once.
use Rattle.std.specs.Prelude.{◌≡◌, ℕ, ◌<◌, ◌==◌, Bool, true, ◌||◌, List, ◌++◌}
use Rattle.std.specs.List.{All, IsDistinct, list_any}
use Rattle.base_collections.specs.Positions.{has}
use Rattle.project_minimal.specs.declared.taken.Taken.{Taken}

-- a file was taken
abbrev pub is_taken : Taken → ℕ → Bool
is_taken taken at = has taken.set at

-- the taken positions, as a set and, in the order in which they were taken, as a list; all below `low` are taken
pub record AreTaken (count : ℕ) (taken : Taken) : Type 0 where
  pub each : (at : ℕ) → is_taken taken at ≡ list_any (λ other. at == other) taken.list.items
  pub distinct : IsDistinct (λ at other. at == other) taken.list.items
  pub within : All (λ at. at < count) taken.list.items
  pub low : (at : ℕ) → at < taken.low → is_taken taken at ≡ true

-- a list goes on as another
pub record GoesOn (old new : List ℕ) : Type 0 where
  pub more : List ℕ
  pub is : new ≡ old ++ more

-- more files were taken
pub record Grows (count : ℕ) (old new : Taken) : Type 0 where
  pub are : AreTaken count new
  pub goes_on : GoesOn old.list.items new.list.items

-- the positions that pass a test were taken too
abbrev pub Takes : (ℕ → Bool) → Taken → Taken → Type 0
Takes test old new = (at : ℕ) → is_taken new at ≡ (is_taken old at || test at)
