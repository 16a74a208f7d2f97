-- What is checked of files that were read.
use Rattle.std.specs.Prelude.{◌≡◌, ◌≢◌, ◌⊎◌, ℕ, ◌<◌, ◌≤◌, List, length, All, Contains, slice_index, slice_index_or}
use Rattle.base.specs.declared.graph.Entry.{Entry}
use Rattle.base.specs.Names.{FitsName, FitsCommand}
use Rattle.base.specs.declared.limits.TheConstants.{TEXT_LIMIT}

-- a file with the sizes of a graph
pub record FitsFile (entry : Entry) : Type 0 where
  pub name : FitsName entry.name
  pub command : FitsCommand entry.command
  pub text : length entry.text ≤ TEXT_LIMIT

-- the first positions are marked by 1, and no other
pub record IsSeen (deps : List ℕ) (count : ℕ) (state : List ℕ) (done : ℕ) : Type 0 where
  pub count_is : length state ≡ count
  pub held : (k : ℕ) → k < done → slice_index state (slice_index deps k) ≡ 1
  pub only : (position : ℕ) → (slice_index state position ≡ 0) ⊎ ((slice_index state position ≡ 1) × Contains deps position)

-- flags that became 2 are those of the first positions
abbrev pub Covers : List ℕ → List ℕ → List ℕ → ℕ → Type 0
Covers deps old new done = (position : ℕ) → (slice_index new position ≡ slice_index old position) ⊎ ((slice_index new position ≡ 2) × (slice_index old position ≢ 0) × Contains deps position)

-- positions hold the dependencies of each file among them
abbrev pub HoldsAll : List Entry → List ℕ → Type 0
HoldsAll entries deps = (other : Entry) → All (λ dep. All (Contains deps) (slice_index_or entries dep other).deps) deps

-- the file at a rank holds the dependencies of its dependencies
abbrev pub HasClosedDeps : List Entry → ℕ → Type 0
HasClosedDeps entries rank = (entry : Entry) → HoldsAll entries (slice_index_or entries rank entry).deps

-- its dependencies come before it
abbrev pub IsBefore : List Entry → ℕ → Type 0
IsBefore entries rank = (entry : Entry) → All (λ dep. dep < rank) (slice_index_or entries rank entry).deps
