-- The rows that units begin with, and the links between units and groups.
use Rattle.std.specs.Prelude.{◌≡◌, ℕ, ◌⊎◌, true, List, Contains, length}
use Rattle.vhdl_scope.specs.Bits.{row_has, IsPartOf}
use Rattle.vhdl_scope.specs.Names.{name_of_number, number_of}

-- each of some names has a number
abbrev pub AreNamed : List (List ℕ) → List (List ℕ) → Type 0
AreNamed names some = (name : List ℕ) → Contains some name → Contains names name

-- the numbers of some names were put into a row
pub record HasPut (names some : List (List ℕ)) (old new : List ℕ) : Type 0 where
  pub even : length new ≡ length old
  pub unchanged : IsPartOf (row_has old) (row_has new)
  pub put : (name : List ℕ) → Contains some name → row_has new (number_of names name) ≡ true
  pub only : (number : ℕ) → row_has new number ≡ true → (row_has old number ≡ true) ⊎ Contains some (name_of_number names number)

-- a row has exactly some names
pub record IsRowOf (names : List (List ℕ)) (words : ℕ) (row : List ℕ) (some : List (List ℕ)) : Type 0 where
  pub even : length row ≡ words
  pub put : (name : List ℕ) → Contains some name → row_has row (number_of names name) ≡ true
  pub only : (number : ℕ) → row_has row number ≡ true → Contains some (name_of_number names number)
