-- The compile order of the files of a project, and the cycle that is reported if no order exists. A unit is analysed
-- after the units that it refers to (IEEE Std 1076-2008, clause 13.5). The choice among files that could be next is this
-- project's own. A file is named by its position in the project.
use Rattle.std.specs.Prelude.{◌≡◌, ◌≢◌, ℕ, zero, suc, ◌+◌, ◌<◌, ◌≤◌, ◌==◌, Bool, not, ◌&&◌, if◌then◌else◌, Option, Some, None, Result, Ok, Err, List, [], ◌∷◌, ◌++◌, length, take, drop, All, AllPairs, Contains, slice_index, slice_index_or}
use Rattle.std.specs.List.{find, list_any, list_all}
use Rattle.std.specs.List.Sorted.{IsStrictlyIncreasing}
use Rattle.std.specs.Option.{option_map_or}
use Rattle.base.specs.declared.limits.TheConstants.{FILE_LIMIT}
use Rattle.base.specs.declared.linking.OrderFault.{OrderFault}
use Rattle.base.specs.declared.linking.OrderFault.TheVariants.{NoMemory, Cycle}
use Rattle.base.specs.PresentGraph.{below}
use Rattle.base.specs.View.{rank_in}

-- ## Edges

-- the files that a file depends on itself
abbrev pub deps_in : List (List ℕ) → ℕ → List ℕ
deps_in edges file = slice_index_or edges file []

-- of each of at most 4,096 files the other files that it depends on itself, rising
pub record AreEdges (edges : List (List ℕ)) : Type 0 where
  pub few : length edges ≤ FILE_LIMIT
  pub rising : (file : ℕ) → IsStrictlyIncreasing (deps_in edges file)
  pub within : (file : ℕ) → All (λ dep. dep < length edges) (deps_in edges file)
  pub others : (file : ℕ) → All (λ dep. dep ≢ file) (deps_in edges file)

-- ## The order

-- the file was taken
abbrev pub has_taken : List ℕ → ℕ → Bool
has_taken taken file = list_any (λ other. file == other) taken

-- the file wasn't taken, and all that it depends on was
abbrev pub can_take : List (List ℕ) → List ℕ → ℕ → Bool
can_take edges taken file = not (has_taken taken file) && list_all (has_taken taken) (deps_in edges file)

-- the first such file in project order
unfoldable pub first_free : List (List ℕ) → List ℕ → Option ℕ
first_free edges taken = find (can_take edges taken) (below (length edges))

-- the files that were taken, and the next one, if any
abbrev pub with_taken : List ℕ → Option ℕ → List ℕ
with_taken taken (Some file) = taken ++ file ∷ []
with_taken taken None = taken

-- the files that are taken in the given number of steps: each step takes the first file that can be taken, if any
unfoldable pub taken_after : List (List ℕ) → ℕ → List ℕ
taken_after edges zero = []
taken_after edges (suc steps) = with_taken (taken_after edges steps) (first_free edges (taken_after edges steps))

-- all files that can be taken, in this order
abbrev pub all_taken : List (List ℕ) → List ℕ
all_taken edges = taken_after edges (length edges)

-- ## The cycle

-- the first file in project order that wasn't taken
unfoldable pub first_untaken : List (List ℕ) → List ℕ → ℕ
first_untaken edges taken = option_map_or (λ file. file) (find (λ file. not (has_taken taken file)) (below (length edges))) 0

-- the first file in project order that a file depends on and that wasn't taken
unfoldable pub untaken_dep : List (List ℕ) → List ℕ → ℕ → ℕ
untaken_dep edges taken file = option_map_or (λ dep. dep) (find (λ dep. not (has_taken taken dep)) (deps_in edges file)) file

-- The loop that is met when `next` is followed from a file: the files from the first visit of a file up to its second.
-- It is empty if no file was passed before within the given number of steps.
unfoldable pub repeated : (ℕ → ℕ) → ℕ → List ℕ → ℕ → List ℕ
repeated next zero passed file = []
repeated next (suc steps) passed file = if has_taken passed file then drop (rank_in passed file) passed else repeated next steps (passed ++ file ∷ []) (next file)

-- the cycle that is met from the first file that can't be taken, by the first untaken dependency each time
abbrev pub reported_cycle : List (List ℕ) → List ℕ
reported_cycle edges = repeated (untaken_dep edges (all_taken edges)) (suc (length edges)) [] (first_untaken edges (all_taken edges))

-- ## The order, or the cycle

-- positions of files in compile order, or positions of files that form a cycle
pub data FileOrder : Type 0 where
  Ordered : List ℕ → FileOrder
  Cyclic : List ℕ → FileOrder

-- All files in compile order, or a cycle. Each step takes the first file in project order whose dependencies were all
-- taken. If some files can't be taken, a path starts at the first of them. Each file on the path is followed by its first
-- dependency that wasn't taken, until a file comes again. The cycle is the path from the first visit of that file on.
unfoldable pub file_order : List (List ℕ) → FileOrder
file_order edges = if length (all_taken edges) == length edges then Ordered (all_taken edges) else Cyclic (reported_cycle edges)

-- the answer is this order, or this cycle, unless memory ran out
abbrev pub GivesOrder : FileOrder → Result (List ℕ) OrderFault → Type 0
GivesOrder said (Ok order) = said ≡ Ordered order
GivesOrder said (Err NoMemory) = Unit {0}
GivesOrder said (Err (Cycle files)) = said ≡ Cyclic files

-- ## What orders and cycles are

-- each file once, after all that it depends on
pub record IsBuildOrder (edges : List (List ℕ)) (order : List ℕ) : Type 0 where
  pub count : length order ≡ length edges
  pub every : (file : ℕ) → file < length edges → Contains order file
  pub within : All (λ file. file < length edges) order
  pub distinct : AllPairs (λ file other. file ≢ other) order
  pub after : (rank : ℕ) → rank < length order → All (Contains (take rank order)) (deps_in edges (slice_index order rank))

-- files, each once, of which each depends on the next, and the last on the first
pub record IsCycle (edges : List (List ℕ)) (files : List ℕ) : Type 0 where
  pub some : 0 < length files
  pub within : All (λ file. file < length edges) files
  pub distinct : AllPairs (λ file other. file ≢ other) files
  pub steps : (rank : ℕ) → rank + 1 < length files → Contains (deps_in edges (slice_index files rank)) (slice_index files (rank + 1))
  pub closes : (last : ℕ) → last + 1 ≡ length files → Contains (deps_in edges (slice_index files last)) (slice_index files 0)
