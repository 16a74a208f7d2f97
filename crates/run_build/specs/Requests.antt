-- What a compiler is started with over the artefacts of the latest records.
use Rattle.std.specs.Prelude.{◌≡◌, ◌<◌, ℕ, List, slice_get, Option, Some}
use Rattle.std.specs.Option.{option_map, option_and_then}
use Rattle.std.specs.List.{filter_map, flat_map}
use Rattle.base.specs.declared.file.FileName.{FileName}
use Rattle.base.specs.declared.graph.Entry.{Entry}
use Rattle.base.specs.declared.graph.BuiltFile.{BuiltFile}
use Rattle.base.specs.declared.child.Request.{Request}
use Rattle.base.specs.Jobs.{built_bytes, compile_request}
use Rattle.base.specs.PresentGraph.{below}
use Rattle.outside.specs.Records.{Record, IsRecorded}
use Rattle.run_build.specs.declared.requests.Gathered.{Gathered}

-- a file with the artefact of its latest record
abbrev pub borrowed_file : (FileName → Option Record) → Entry → Option BuiltFile
borrowed_file latest_of entry = option_map (λ kept. record { name = entry.name; artefact = kept.artefact }) (latest_of entry.name)

-- the file at a position with the artefact of its latest record
unfoldable pub borrowed_at : (FileName → Option Record) → List Entry → ℕ → Option BuiltFile
borrowed_at latest_of graph position = option_and_then (borrowed_file latest_of) (slice_get graph position)

-- what the compiler of the file at a position is started with
abbrev pub borrowed_request : (FileName → Option Record) → List Entry → ℕ → Option Request
borrowed_request latest_of graph position = option_map (λ entry. compile_request entry (filter_map (borrowed_at latest_of graph) entry.deps)) (slice_get graph position)

-- the files before a position have records of what would be asked for them now
abbrev pub AreRecorded : (FileName → Option Record) → List Entry → ℕ → Type 0
AreRecorded latest_of graph count = (position : ℕ) → position < count → IsRecorded latest_of graph position

-- the latest records of the files before a position don't change
abbrev pub KeepsFirst : List Entry → ℕ → (FileName → Option Record) → (FileName → Option Record) → Type 0
KeepsFirst graph count old new = (position : ℕ) (entry : Entry) → position < count → slice_get graph position ≡ Some entry → new entry.name ≡ old entry.name

-- what was gathered are the files before a position, as requests have them, with the artefacts that are borrowed
pub record IsGathered (latest_of : FileName → Option Record) (graph : List Entry) (gathered : Gathered) : Type 0 where
  pub recorded : AreRecorded latest_of graph gathered.count
  pub are : gathered.files ≡ flat_map built_bytes (filter_map (borrowed_at latest_of graph) (below gathered.count))
