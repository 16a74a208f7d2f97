-- What is counted of files that wait for others.
use Rattle.std.specs.Prelude.{◌≡◌, ℕ, Bool, false, not, ◌&&◌, ◌==◌, List, count_by, slice_index_or}
use Rattle.std.specs.List.{list_all}

-- how often a number occurs in a list
unfoldable pub times : ℕ → List ℕ → ℕ
times n numbers = count_by (λ other. other == n) numbers

-- how many of these files aren't done
unfoldable pub undone : (ℕ → Bool) → List ℕ → ℕ
undone done files = count_by (λ file. not (done file)) files

-- a file waits, and all that it depends on is done
unfoldable pub is_ready : (ℕ → List ℕ) → (waits done : ℕ → Bool) → ℕ → Bool
is_ready deps waits done file = waits file && list_all done (deps file)

-- a test passes exactly the files that wait and that nothing is missing for
abbrev pub AreReady : (ℕ → Bool) → List Bool → List ℕ → Type 0
AreReady test waiting missing = (file : ℕ) → test file ≡ (slice_index_or waiting file false && (slice_index_or missing file 0 == 0))
