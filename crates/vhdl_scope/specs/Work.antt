-- Lists of work: indices that are to be looked at, each once.
use Rattle.std.specs.Prelude.{◌≡◌, ℕ, ◌+◌, ◌<◌, ◌≤◌, ◌*◌, ◌++◌, ◌∷◌, ◌⊎◌, Bool, true, false, List, [], Contains, length, slice_index_or}
use Rattle.std.specs.List.{All, sum_by}
use Rattle.vhdl_scope.specs.declared.links.Link.{Link}
use Rattle.vhdl_scope.specs.Bits.{gap, has}
use Rattle.vhdl_scope.specs.Links.{AreEven, HasSpread, TakesAll, links_at}

-- the flags say truly which indices are on the list, and each of them has a flag
pub record IsWork (work : List ℕ) (flags : List Bool) : Type 0 where
  pub below : All (λ at. at < length flags) work
  pub told : (at : ℕ) → slice_index_or flags at false ≡ true → Contains work at

-- indices were put on the list, where they weren't there
pub record HasListed (row_indices work : List ℕ) (flags : List Bool) (more : List ℕ) (after : List Bool) : Type 0 where
  pub each : length after ≡ length flags
  pub is : IsWork more after
  pub unchanged : (at : ℕ) → Contains work at → Contains more at
  pub listed : (at : ℕ) → Contains row_indices at → Contains more at
  pub few : length more ≤ length work + length row_indices

-- the readers of an index
abbrev pub readers_at : List (List ℕ) → ℕ → List ℕ
readers_at readers at = slice_index_or readers at []

-- who reads an index is among its readers
abbrev pub KnowReaders : List (List Link) → List (List ℕ) → Type 0
KnowReaders links readers = (at : ℕ) (link : Link) → Contains (links_at links at) link → Contains (readers_at readers link.source) at

-- readers are indices below a number
abbrev pub AreReaders : ℕ → List (List ℕ) → Type 0
AreReaders row_indices readers = All (λ some. All (λ at. at < row_indices) some) readers

-- an index was added to the readers of the source of each of its links
pub record HaveReader (reader : ℕ) (links : List Link) (old new : List (List ℕ)) : Type 0 where
  pub each : length new ≡ length old
  pub row_indices : AreReaders (length old) new
  pub unchanged : (source other : ℕ) → Contains (readers_at old source) other → Contains (readers_at new source) other
  pub added : (link : Link) → Contains links link → Contains (readers_at new link.source) reader

-- each index takes what its links hand on, or is on the list of work
pub record IsSettling (links : List (List Link)) (first rows : List (List ℕ)) (work : List ℕ) (flags : List Bool) : Type 0 where
  pub each : length flags ≡ length rows
  pub is : IsWork work flags
  pub spread : HasSpread links first rows
  pub pending : (at : ℕ) → at < length rows → Contains work at ⊎ TakesAll (links_at links at) (has rows) (has rows at)

-- how much can be done yet: less with each index that is taken from the list of work and looked at
abbrev pub effort : List (List ℕ) → List (List ℕ) → List ℕ → ℕ
effort readers rows work = sum_by gap rows * (sum_by length readers + 2) + length work

-- an index that was taken from the list of work was looked at
pub record HasRevisited (links : List (List Link)) (readers : List (List ℕ)) (at : ℕ) (rows : List (List ℕ)) (work : List ℕ) (flags : List Bool) (after : List (List ℕ)) (more : List ℕ) (flagged : List Bool) : Type 0 where
  pub even : (words : ℕ) → AreEven words rows → AreEven words after
  pub settling : (first : List (List ℕ)) → IsSettling links first rows (work ++ at ∷ []) flags → IsSettling links first after more flagged
  pub less : effort readers after more < effort readers rows (work ++ at ∷ [])
