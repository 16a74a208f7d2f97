-- The libraries and the names of files that were read so far.
use Rattle.std.specs.Prelude.{◌≡◌, ℕ, ◌<◌, ◌≤◌, Bool, true, false, not, ◌&&◌, List, [], ◌∷◌, ◌++◌, length, map, filter, All, slice_index_or, Result, Ok, Err}
use Rattle.std.specs.List.{list_any}
use Rattle.base_collections.specs.Numbers.{NumbersBelow, IsAdded}
use Rattle.toml.specs.Data.{Members}
use Rattle.base.specs.declared.file.FileName.{FileName}
use Rattle.base.specs.declared.memory.OrMemory.{OrMemory}
use Rattle.base.specs.declared.memory.OrMemory.TheVariants as memory
use Rattle.base.specs.declared.project.ProjectFault.{ProjectFault}
use Rattle.project_file.specs.Paths.{matches_path}
use Rattle.project_file.specs.Steps.{ReadsStep}
use Rattle.project_file.specs.Toml.{is_among, matching_names, files_of}

-- a library alone, as a key, and the libraries of keys
abbrev pub alone : List ℕ → FileName
alone library = record { library = library; path = [] }

-- the library of each key
abbrev pub libraries_of : List FileName → List (List ℕ)
libraries_of keys = map (λ key. key.library) keys

-- a library comes after these keys, which are libraries alone
abbrev pub AddsLibrary : List FileName → List FileName → Result (List ℕ) ProjectFault → Result (List ℕ) (OrMemory ProjectFault) → Type 0
AddsLibrary old new said (Ok library) = (said ≡ Ok library) × (new ≡ old ++ alone library ∷ [])
AddsLibrary old new said (Err memory.NoMemory) = Unit {0}
AddsLibrary old new said (Err (memory.Fault fault)) = said ≡ Err fault

-- the names at these indices
abbrev pub texts_at : List (List ℕ) → List ℕ → List (List ℕ)
texts_at names indices = map (λ file_index. slice_index_or names file_index []) indices

-- indices of names, each at most once
pub record AreIndices (names : List (List ℕ)) (indices : NumbersBelow) : Type 0 where
  pub size : length names ≤ indices.size
  pub each : All (λ file_index. file_index < length names) indices.numbers

-- an index is added where it is wanted
abbrev pub AddsWanted : Bool → ℕ → NumbersBelow → NumbersBelow → Type 0
AddsWanted true file_index old new = (is_new : Bool) × IsAdded is_new file_index old new
AddsWanted false file_index old new = new ≡ old

-- the names that a pattern matches are appended to the names found before, except for names that are among these already
pub record TakesMatching (names : List (List ℕ)) (pattern : List ℕ) (old new : NumbersBelow) (any : Bool) : Type 0 where
  pub some : any ≡ list_any (matches_path pattern) names
  pub indices : AreIndices names new
  pub found : texts_at names new.numbers ≡ texts_at names old.numbers ++ filter (λ name. matches_path pattern name && not (is_among (texts_at names old.numbers) name)) names

-- the names that patterns match are appended to the names found before, or a pattern matches no name; memory may also run
-- out
abbrev pub TakesNames : List (List ℕ) → List (List ℕ) → NumbersBelow → NumbersBelow → Result (Unit {0}) (OrMemory ProjectFault) → Type 0
TakesNames names patterns old new (Ok done) = (matching_names names (texts_at names old.numbers) patterns ≡ Ok (texts_at names new.numbers)) × AreIndices names new
TakesNames names patterns old new (Err memory.NoMemory) = Unit {0}
TakesNames names patterns old new (Err (memory.Fault fault)) = matching_names names (texts_at names old.numbers) patterns ≡ Err fault

-- a table has a fault, whatever tables follow
abbrev pub FailsTable : List (List ℕ) → List (List ℕ) → Members → List FileName → OrMemory ProjectFault → Type 0
FailsTable names compiler table keys fault = (rest : List Members) → ReadsStep (files_of names compiler (libraries_of keys) (table ∷ rest)) (Err fault)
