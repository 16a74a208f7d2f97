-- Numbers below a size, and their indices in an order.
use Rattle.std.specs.Prelude.{◌≡◌, ◌⊎◌, ℕ, ◌<◌, ◌++◌, ◌∷◌, [], Bool, true, false, List, length, All, Contains, slice_get, slice_index, Option, Some, None}

-- A size, and numbers below it, in order.
pub record NumbersBelow : Type 0 where
  pub size : ℕ
  pub numbers : List ℕ

-- the index of a number among numbers, or that it isn't among them
abbrev pub IsIndexOf : {X : Type 0} → List X → X → Option ℕ → Type 0
IsIndexOf items item None = ¬ Contains items item
IsIndexOf items item (Some item_index) = slice_get items item_index ≡ Some item

-- a number was added at the end, or it was there
abbrev pub IsAdded : Bool → ℕ → NumbersBelow → NumbersBelow → Type 0
IsAdded true number old new = (¬ Contains old.numbers number) × (new ≡ record { size = old.size; numbers = old.numbers ++ number ∷ [] })
IsAdded false number old new = Contains old.numbers number × (new ≡ old)

-- the table has the index of each number
pub record AreFound (indices numbers : List ℕ) : Type 0 where
  pub below : All (λ number. number < length indices) numbers
  pub noted : (k : ℕ) → k < length numbers → slice_index indices (slice_index numbers k) ≡ k

-- Keys in order, and for how many more there is room.
pub record KeyList (K : Type 0) : Type 0 where
  pub keys : List K
  pub room : ℕ

-- A key has a number among keys that were so before, or has come after those.
pub record IsNumbered {K : Type 0} (key : K) (number : ℕ) (old new : List K) : Type 0 where
  pub numbered : slice_get new number ≡ Some key
  pub grown : (new ≡ old) ⊎ (new ≡ old ++ key ∷ [])
