-- Keys, each with a number, and how they are found.
use Rattle.std.specs.Prelude.{◌≡◌, ◌≢◌, ◌⊎◌, ℕ, ◌-◌, ◌<◌, ◌≤◌, ◌++◌, ◌∷◌, ◌/◌, ◌%◌, ◌^◌, ◌==◌, [], true, if◌then◌else◌, List, length, fold, AllPairs, Contains, slice_get, slice_index, Option, Some, None, is_some}
use Rattle.std.specs.Hash.FoldHasher as folding
use Rattle.base_collections.specs.declared.table.Found.{Found}
use Rattle.base_collections.specs.declared.table.Found.TheVariants.{At, Free, Nowhere}

-- the bucket of a key among keys, or that it isn't among them
abbrev pub IsKeyAt : {K : Type 0} → List K → K → Option ℕ → Type 0
IsKeyAt keys key None = ¬ Contains keys key
IsKeyAt keys key (Some bucket) = slice_get keys bucket ≡ Some key

-- a key has a number among keys, as it had before or as the one that came last
pub record TakesNumber {K : Type 0} (key : K) (number : ℕ) (old new : List K) : Type 0 where
  pub numbered : slice_get new number ≡ Some key
  pub kept : number < length old → new ≡ old
  pub grown : length old ≤ number → new ≡ old ++ key ∷ []

-- the hash of a key by the writes of its bytes
unfoldable pub hash_of : List (List ℕ) → ℕ
hash_of input = folding.finish (fold folding.write folding.initial input)

-- the first of the two buckets of a hash, in a table with the given number of buckets
abbrev pub first_of : ℕ → ℕ → ℕ
first_of buckets hash = hash % buckets

-- the second of the two, by the upper half of the hash
abbrev pub second_of : ℕ → ℕ → ℕ
second_of buckets hash = hash / 2 ^ 32 % buckets

-- what a bucket of a table says: a number and one, or nothing
abbrev pub slot_of : ℕ → Option ℕ
slot_of kept = if kept == 0 then None else Some (kept - 1)

-- what the table holds at an index
abbrev pub slot_at : List ℕ → ℕ → Option ℕ
slot_at slots at = slot_of (slice_index slots at)

-- a bucket of the table has another key
pub record Holds {K : Type 0} (slot : ℕ → Option ℕ) (keys : List K) (key : K) (at : ℕ) : Type 0 where
  pub number : ℕ
  pub other : K
  pub held : slot at ≡ Some number
  pub is : slice_get keys number ≡ Some other
  pub differs : other ≡ key → ⊥

-- a bucket of a key is free: its first one, or the second one where another key is at the first
pub record IsFree {K : Type 0} (slot : ℕ → Option ℕ) (keys : List K) (key : K) (one two buckets bucket : ℕ) : Type 0 where
  pub free : slot bucket ≡ None
  pub within : bucket < buckets
  pub which : (bucket ≡ one) ⊎ ((bucket ≡ two) × Holds slot keys key one)

-- other keys are at both, or there are no buckets
abbrev pub AreTaken : {K : Type 0} → (ℕ → Option ℕ) → List K → K → ℕ → ℕ → ℕ → Type 0
AreTaken slot keys key one two buckets = (buckets ≡ 0) ⊎ (Holds slot keys key one × Holds slot keys key two)

-- what a look at the buckets of a key shows
abbrev pub IsLooked : {K : Type 0} → (ℕ → Option ℕ) → List K → K → ℕ → ℕ → ℕ → Found → Type 0
IsLooked slot keys key one two buckets (At number) = slice_get keys number ≡ Some key
IsLooked slot keys key one two buckets (Free bucket) = IsFree slot keys key one two buckets bucket
IsLooked slot keys key one two buckets Nowhere = AreTaken slot keys key one two buckets

-- keys, each once, are found at their buckets in a table, or among the others
pub record AreFlagged {K : Type 0} (one two : K → ℕ) (buckets : ℕ) (slot : ℕ → Option ℕ) (others : K → Option ℕ) (keys : List K) : Type 0 where
  pub once : AllPairs (λ a b. a ≢ b) keys
  pub within : (at number : ℕ) → slot at ≡ Some number → number < length keys
  pub none : buckets ≡ 0 → (at : ℕ) → slot at ≡ None
  pub other : (key : K) (number : ℕ) → others key ≡ Some number → slice_get keys number ≡ Some key
  pub found : (key : K) (number : ℕ) → slice_get keys number ≡ Some key → (slot (one key) ≡ Some number) ⊎ ((slot (two key) ≡ Some number) ⊎ (others key ≡ Some number))
  pub first : (key : K) (number : ℕ) → slice_get keys number ≡ Some key → 0 < buckets → is_some (slot (one key)) ≡ true
  pub second : (key : K) (number : ℕ) → slice_get keys number ≡ Some key → 0 < buckets → (slot (one key) ≡ Some number → ⊥) → is_some (slot (two key)) ≡ true
