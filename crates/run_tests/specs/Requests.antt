-- The files of a graph with the artefacts of their latest records.
use Rattle.std.specs.Prelude.{◌≡◌, ℕ, List, length, slice_get, Option}
use Rattle.std.specs.Option.{option_map, option_and_then}
use Rattle.std.specs.List.{filter_map, flat_map}
use Rattle.base.specs.declared.file.FileName.{FileName}
use Rattle.base.specs.declared.graph.Entry.{Entry}
use Rattle.base.specs.declared.graph.BuiltFile.{BuiltFile}
use Rattle.base.specs.Jobs.{built_bytes}
use Rattle.base.specs.PresentGraph.{below}
use Rattle.outside.specs.Records.{Record}

-- a file with the artefact of its latest record
abbrev pub borrowed_file : (FileName → Option Record) → Entry → Option BuiltFile
borrowed_file latest_of entry = option_map (λ kept. record { name = entry.name; artefact = kept.artefact }) (latest_of entry.name)

-- the file at a position with the artefact of its latest record
unfoldable pub borrowed_at : (FileName → Option Record) → List Entry → ℕ → Option BuiltFile
borrowed_at latest_of graph position = option_and_then (borrowed_file latest_of) (slice_get graph position)

-- all files of a graph that have a record, in order
abbrev pub borrowed_files : (FileName → Option Record) → List Entry → List BuiltFile
borrowed_files latest_of graph = filter_map (borrowed_at latest_of graph) (below (length graph))

-- these are the bytes of all files of a graph, each of which has a record, as they stand in a request
pub record AreBuilt (latest_of : FileName → Option Record) (graph : List Entry) (bytes : List ℕ) : Type 0 where
  pub count : length (borrowed_files latest_of graph) ≡ length graph
  pub written : bytes ≡ flat_map built_bytes (borrowed_files latest_of graph)
