-- A graph is a list of files in compile order, each with the files that it depends on.
use Rattle.std.specs.Prelude.{◌≢◌, ℕ, ◌<◌, ◌≤◌, List, length, All, AllPairs, Contains, slice_index_or, sum_by}
use Rattle.std.specs.List.Sorted.{IsStrictlyIncreasing}
use Rattle.base.specs.declared.graph.Entry.{Entry}
use Rattle.base.specs.declared.graph.BuiltFile.{BuiltFile}
use Rattle.base.specs.declared.limits.TheConstants.{TEXT_LIMIT, FILE_LIMIT, GRAPH_TEXT_LIMIT, ARTEFACT_LIMIT}
use Rattle.base.specs.Names.{FitsName, FitsCommand}

-- the file at rank i of the graph: its dependencies rise, come before it, and hold their own dependencies
pub record IsEntryAt (graph : List Entry) (i : ℕ) (entry : Entry) : Type 0 where
  pub rising : IsStrictlyIncreasing entry.deps
  pub before : All (λ dep. dep < i) entry.deps
  pub closed : All (λ dep. (other : Entry) → All (Contains entry.deps) (slice_index_or graph dep other).deps) entry.deps
  pub name : FitsName entry.name
  pub command : FitsCommand entry.command
  pub text : length entry.text ≤ TEXT_LIMIT

-- At most 4,096 files with distinct names, of at most 67,108,864 bytes together. Each has the positions of the files
-- that it depends on: they rise, are lower than its own, and hold their own dependencies. With the dependencies none,
-- 0, and 0 and 1, three files are a graph; with none, 0, and 1 alone they aren't, since file 1 depends on 0.
pub record IsGraph (graph : List Entry) : Type 0 where
  pub few : length graph ≤ FILE_LIMIT
  pub distinct : AllPairs (λ entry other. entry.name ≢ other.name) graph
  pub each : (i : ℕ) (other : Entry) → i < length graph → IsEntryAt graph i (slice_index_or graph i other)
  pub small : sum_by (λ entry. length entry.text) graph ≤ GRAPH_TEXT_LIMIT

-- an artefact has at most 262,144 bytes, and the name of its file fits
pub record IsBuiltFile (file : BuiltFile) : Type 0 where
  pub name : FitsName file.name
  pub artefact : length file.artefact ≤ ARTEFACT_LIMIT

-- at most 4,096 files with names within their limits, each with an artefact of at most 262,144 bytes
pub record IsBuilt (files : List BuiltFile) : Type 0 where
  pub few : length files ≤ FILE_LIMIT
  pub each : All IsBuiltFile files
