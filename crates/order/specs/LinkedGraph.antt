-- The present graph of a linked project: its files in an order, each with all files that it depends on, directly or not.
use Rattle.std.specs.Prelude.{◌≡◌, ℕ, zero, suc, ◌≤◌, ◌==◌, Bool, false, ◌||◌, List, [], ◌∷◌, length, filter, All, Contains, slice_get, slice_index, slice_index_or, sum_by}
use Rattle.std.specs.List.{list_any, filter_map}
use Rattle.std.specs.Option.{option_map}
use Rattle.base.specs.declared.graph.Entry.{Entry}
use Rattle.base.specs.declared.project.ProjectFile.{ProjectFile}
use Rattle.base.specs.declared.limits.TheConstants.{TEXT_LIMIT, GRAPH_TEXT_LIMIT}
use Rattle.base.specs.PresentGraph.{below}
use Rattle.order.specs.BuildOrder.{deps_in}

-- a file depends on another in at least one step, and at most the given number of steps
unfoldable pub reaches_within : List (List ℕ) → ℕ → ℕ → ℕ → Bool
reaches_within edges zero file other = false
reaches_within edges (suc steps) file other = list_any (λ dep. dep == other || reaches_within edges steps dep other) (deps_in edges file)

-- a file depends on another, directly or not: as many steps as there are files are enough
abbrev pub reaches : List (List ℕ) → ℕ → ℕ → Bool
reaches edges file other = reaches_within edges (length edges) file other

-- the positions in an order of all files that a file depends on, directly or not
abbrev pub closure_of : List (List ℕ) → List ℕ → ℕ → List ℕ
closure_of edges order file = filter (λ position. reaches edges file (slice_index order position)) (below (length order))

-- a file of the project, with its text
abbrev pub linked_entry : List (List ℕ) → List ℕ → List (List ℕ) → ℕ → ProjectFile → Entry
linked_entry edges order texts at file = record { name = file.name; command = file.command; text = slice_index_or texts at []; deps = closure_of edges order at }

-- the files of a project in an order, each with its text and the positions of all files that it reaches
unfoldable pub linked : List ProjectFile → List (List ℕ) → List (List ℕ) → List ℕ → List Entry
linked files texts edges order = filter_map (λ at. option_map (linked_entry edges order texts at) (slice_get files at)) order

-- each text is within the limit of a text, and all together within that of a graph
pub record AreSmall (texts : List (List ℕ)) : Type 0 where
  pub short : All (λ text. length text ≤ TEXT_LIMIT) texts
  pub few_bytes : sum_by (λ text. length text) texts ≤ GRAPH_TEXT_LIMIT

-- one text for each file, of at most 4,194,304 bytes each and 67,108,864 together
pub record FitTexts (files : List ProjectFile) (texts : List (List ℕ)) : Type 0 where
  pub each : length texts ≡ length files
  pub small : AreSmall texts

-- ## What it is to depend on a file

-- a way from a file to another over files that each depend on the next: the files after the first
abbrev pub IsWay : List (List ℕ) → ℕ → List ℕ → ℕ → Type 0
IsWay edges file [] other = Contains (deps_in edges file) other
IsWay edges file (next ∷ rest) other = Contains (deps_in edges file) next × IsWay edges next rest other
