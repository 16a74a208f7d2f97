-- The examples of "The journal of payloads".
use Rattle.std.specs.Prelude.{◌≡◌, ℕ, ◌∷◌, List, [], Some, None, length, codes}
use Rattle.outside.specs.declared.disk.Side.TheVariants.{A, B}
use Rattle.store_journal.specs.Journals.{other_side}
use Rattle.store_journal.specs.Payloads.{counting, payloads, side_bytes}

-- the 19 bytes of a side of form 1 and generation 1 without payloads
abbrev empty_side : List ℕ
empty_side = 1 ∷ 86 ∷ 85 ∷ 78 ∷ 73 ∷ 84 ∷ 82 ∷ 69 ∷ 67 ∷ 1 ∷ 1 ∷ 0 ∷ 0 ∷ 0 ∷ 0 ∷ 0 ∷ 0 ∷ 0 ∷ 0 ∷ []

-- the bytes of a side of form 1, by the first byte, the generation (below 256), and all bytes after the generation
abbrev side : ℕ → ℕ → List ℕ → List ℕ
side first generation rest = first ∷ (86 ∷ 85 ∷ 78 ∷ 73 ∷ 84 ∷ 82 ∷ 69 ∷ 67 ∷ 1 ∷ generation ∷ 0 ∷ 0 ∷ 0 ∷ 0 ∷ 0 ∷ 0 ∷ 0 ∷ rest)

-- the bytes of a live side of generation 1, whose one payload is `ab`
abbrev ab_side : List ℕ
ab_side = side 1 1 (1 ∷ 2 ∷ 0 ∷ 0 ∷ 0 ∷ 97 ∷ 98 ∷ 0 ∷ [])

-- the bytes of a live side of generation 2, whose one payload is `cd`
abbrev cd_side : List ℕ
cd_side = side 1 2 (1 ∷ 2 ∷ 0 ∷ 0 ∷ 0 ∷ 99 ∷ 100 ∷ 0 ∷ [])

-- the sides of the example in FORMATS.md
pub record SpelledSides : Type 0 where
  pub empty : side_bytes 1 1 [] ≡ empty_side
  pub ab : side_bytes 1 1 (codes "ab" ∷ []) ≡ ab_side
  pub count : length ab_side ≡ 26

-- what the sides of an image hold
pub record ImagePayloads : Type 0 where
  pub none : counting 1 (record { a = side 2 1 (0 ∷ []); b = [] }) ≡ None
  pub no_payloads : payloads 1 (record { a = side 2 1 (0 ∷ []); b = [] }) ≡ []
  pub of_a : payloads 1 (record { a = ab_side; b = [] }) ≡ codes "ab" ∷ []
  pub of_b : payloads 1 (record { a = ab_side; b = cd_side }) ≡ codes "cd" ∷ []
  pub higher : counting 1 (record { a = ab_side; b = cd_side }) ≡ Some B
  pub other : other_side B ≡ A
