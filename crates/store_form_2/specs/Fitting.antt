-- What is tested of a new file over files whose views are graphs: its own sizes, the names, and the numbers.
use Rattle.std.specs.Prelude.{◌≢◌, ℕ, ◌+◌, ◌<◌, ◌≤◌, List, length, map, All, slice_index, slice_index_or, sum_by}
use Rattle.std.specs.List.Sorted.{IsStrictlyIncreasing}
use Rattle.base.specs.declared.graph.Entry.{Entry}
use Rattle.base.specs.declared.limits.TheConstants.{FILE_LIMIT, GRAPH_TEXT_LIMIT, TEXT_LIMIT}
use Rattle.base.specs.Names.{FitsCommand, FitsName}
use Rattle.base.specs.View.{rank_in}

-- the numbers of a dependency occur among the first of a list, in its order
pub record IsListed (deps : List ℕ) (k : ℕ) (inner : List ℕ) : Type 0 where
  pub rising : IsStrictlyIncreasing (map (rank_in deps) inner)
  pub before : All (λ rank. rank < k) (map (rank_in deps) inner)

-- the conditions on a new file over the files that it depends on
pub record FitsNew (files : List Entry) (entry other : Entry) : Type 0 where
  pub few : length entry.deps < FILE_LIMIT
  pub names : (i j : ℕ) → i < j → j < length entry.deps → (slice_index_or files (slice_index entry.deps i) other).name ≢ (slice_index_or files (slice_index entry.deps j) other).name
  pub own_name : (i : ℕ) → i < length entry.deps → (slice_index_or files (slice_index entry.deps i) other).name ≢ entry.name
  pub listed : (k : ℕ) → k < length entry.deps → IsListed entry.deps k (slice_index_or files (slice_index entry.deps k) other).deps
  pub name : FitsName entry.name
  pub command : FitsCommand entry.command
  pub text : length entry.text ≤ TEXT_LIMIT
  pub small : sum_by (λ dep. length (slice_index_or files dep other).text) entry.deps + length entry.text ≤ GRAPH_TEXT_LIMIT
