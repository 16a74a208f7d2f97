-- The edit of one file of a graph, and the files that it touches.
use Rattle.std.specs.Prelude.{◌≡◌, ℕ, Bool, ◌||◌, ◌==◌, List, length, slice_get, Option, Some, count_by}
use Rattle.std.specs.List.{list_any}
use Rattle.base.specs.declared.graph.BuiltFile.{BuiltFile}
use Rattle.base.specs.declared.graph.Entry.{Entry}
use Rattle.base.specs.declared.child.Request.{Request}
use Rattle.base.specs.declared.child.Exit.{Exit}
use Rattle.base.specs.Graphs.{IsGraph}
use Rattle.base.specs.PresentGraph.{below}
use Rattle.outside.specs.Records.{deps_at}
use Rattle.run_spec.specs.CleanBuild.{built_of, clean_build, clean_request}

-- the compiler answers all that a clean build of a graph asks with the code 0
abbrev pub AcceptsAll : (Request → Exit) → List Entry → Type 0
AcceptsAll answer graph = (position : ℕ) (request : Request) → clean_request answer graph position ≡ Some request → (answer request).code ≡ 0

-- the file at a position with the artefact that a clean build makes of it
abbrev pub clean_file : (Request → Exit) → List Entry → ℕ → Option BuiltFile
clean_file answer graph position = built_of (slice_get (clean_build answer graph) position)

-- All files of a graph are made: the compiler answers all that a clean build asks with the code 0.
pub record MakesAll (answer : Request → Exit) (graph : List Entry) : Type 0 where
  pub graph_form : IsGraph graph
  pub accepts : AcceptsAll answer graph

-- Two graphs of the same files in the same order, with the same commands and dependencies, whose texts are the same but for
-- that of the edited file.
pub record IsEdit (edited : ℕ) (before after : List Entry) : Type 0 where
  pub count : length after ≡ length before
  pub entry : Entry
  pub text : List ℕ
  pub is_entry : slice_get before edited ≡ Some entry
  pub is_edited : slice_get after edited ≡ Some (record { name = entry.name; command = entry.command; text = text; deps = entry.deps })
  pub others : (position : ℕ) → (position ≡ edited → ⊥) → slice_get after position ≡ slice_get before position

-- Two graphs that an edit is between which changes what a clean build makes of the edited file.
pub record ChangesFile (answer : Request → Exit) (edited : ℕ) (before after : List Entry) : Type 0 where
  pub edit : IsEdit edited before after
  pub differs : clean_file answer before edited ≡ clean_file answer after edited → ⊥

-- the file at a position is the edited one, or depends on it, whether directly or by other files
abbrev pub is_touched : List Entry → (edited : ℕ) → (position : ℕ) → Bool
is_touched graph edited position = position == edited || list_any (λ dep. dep == edited) (deps_at graph position)

-- how many files of a graph are so
abbrev pub touched_files : List Entry → (edited : ℕ) → ℕ
touched_files graph edited = count_by (is_touched graph edited) (below (length graph))
