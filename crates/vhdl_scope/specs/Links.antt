-- Links along which one set hands its numbers on to another.
use Rattle.std.specs.Prelude.{◌≡◌, ◌≢◌, ℕ, ◌<◌, Bool, true, false, List, [], IsTrue, Contains, length, slice_index_or}
use Rattle.std.specs.List.{All}
use Rattle.vhdl_scope.specs.declared.links.Link.{Link}
use Rattle.vhdl_scope.specs.Bits.{has, row_has, gap, IsPartOf, AreWithin}

-- the links of an index
abbrev pub links_at : List (List Link) → ℕ → List Link
links_at links at = slice_index_or links at []

-- a set takes what a link hands on, where it has the link's library number
abbrev pub TakesLink : (ℕ → ℕ → Bool) → (ℕ → Bool) → Link → Type 0
TakesLink sets own link = IsTrue (own link.library_number) → IsPartOf (sets link.source) own

-- a set takes what each of some links hands on
abbrev pub TakesAll : List Link → (ℕ → ℕ → Bool) → (ℕ → Bool) → Type 0
TakesAll links sets own = (link : Link) → Contains links link → TakesLink sets own link

-- the set of each index takes what its links hand on
abbrev pub AreTaken : List (List Link) → (ℕ → ℕ → Bool) → Type 0
AreTaken links sets = (at : ℕ) → TakesAll (links_at links at) sets (sets at)

-- the set of each index before one takes what its links hand on
abbrev pub AreTakenTo : ℕ → List (List Link) → (ℕ → ℕ → Bool) → Type 0
AreTakenTo end links sets = (at : ℕ) → at < end → TakesAll (links_at links at) sets (sets at)

-- A row after links to the sets of other rows were followed, and whether it grew. The row gains only numbers that every
-- closed set around the rows has. If it did not grow, it already takes what all these links hand on.
pub record HasLooked (links : List Link) (rows : List (List ℕ)) (old new : List ℕ) (grown : Bool) : Type 0 where
  pub even : length new ≡ length old
  pub larger : IsPartOf (row_has old) (row_has new)
  pub sound : (sets : ℕ → ℕ → Bool) (own : ℕ → Bool) → AreWithin (has rows) sets → TakesAll links sets own → IsPartOf (row_has old) own → IsPartOf (row_has new) own
  pub same : grown ≡ false → new ≡ old
  pub taken : grown ≡ false → TakesAll links (has rows) (row_has old)
  pub grows : grown ≡ true → gap new < gap old

-- the row of an index
abbrev pub index_row : List (List ℕ) → ℕ → List ℕ
index_row rows at = slice_index_or rows at []

-- each row has `words` words
abbrev pub AreEven : ℕ → List (List ℕ) → Type 0
AreEven words rows = All (λ row. length row ≡ words) rows

-- the links lead to indices below a number
abbrev pub AreBelow : ℕ → List (List Link) → Type 0
AreBelow row_indices links = All (λ some. All (λ link. link.source < row_indices) some) links

-- the row of one index took what its links hand on, and no other row changed
pub record HasLookedAt (links : List (List Link)) (at : ℕ) (old new : List (List ℕ)) (grown : Bool) : Type 0 where
  pub each : length new ≡ length old
  pub even : (words : ℕ) → AreEven words old → AreEven words new
  pub others : (other : ℕ) → other ≢ at → index_row new other ≡ index_row old other
  pub looked : HasLooked (links_at links at) old (index_row old at) (index_row new at) grown

-- what the sets have become by any number of looks: no smaller, and within closed sets around them
pub record HasSpread (links : List (List Link)) (old new : List (List ℕ)) : Type 0 where
  pub each : length new ≡ length old
  pub even : (words : ℕ) → AreEven words old → AreEven words new
  pub larger : AreWithin (has old) (has new)
  pub sound : (sets : ℕ → ℕ → Bool) → AreTaken links sets → AreWithin (has old) sets → AreWithin (has new) sets
