-- Which files remain to be taken after some were taken.
use Rattle.std.specs.Prelude.{◌≡◌, ℕ, ◌<◌, nat_lt, Bool, not, false, if◌then◌else◌, List, [], length, slice_index_or}
use Rattle.order.specs.BuildOrder.{deps_in, has_taken}
use Rattle.order.specs.Waits.{AreWaitingFiles}
use Rattle.order.specs.declared.files.ReadyFiles.{ReadyFiles}

-- of each file a flag: it wasn't taken
pub record AreWaiting (waiting : List Bool) (count : ℕ) (taken : List ℕ) : Type 0 where
  pub as_many : length waiting ≡ count
  pub each : (file : ℕ) → file < count → slice_index_or waiting file false ≡ not (has_taken taken file)

-- each file that wasn't taken waits until all that it depends on was
abbrev pub IsUntaken : ReadyFiles → List (List ℕ) → List ℕ → Type 0
IsUntaken left edges taken = AreWaitingFiles left (length edges) (deps_in edges) (λ file. not (has_taken taken file)) (has_taken taken)

-- nothing was taken, and what the files below a position depend on is noted
abbrev pub IsUntakenTo : ReadyFiles → List (List ℕ) → ℕ → Type 0
IsUntakenTo left edges end = AreWaitingFiles left (length edges) (λ file. if nat_lt file end then deps_in edges file else []) (λ file. not (has_taken [] file)) (has_taken [])
