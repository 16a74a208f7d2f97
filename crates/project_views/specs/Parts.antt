-- A closed part of a graph: files that depend on each other alone. A view is one.
use Rattle.std.specs.Prelude.{ℕ, ◌<◌, List, length, All, Contains, slice_index_or}
use Rattle.std.specs.List.Sorted.{IsStrictlyIncreasing}
use Rattle.base.specs.declared.graph.Entry.{Entry}

-- Rising positions of files that depend only on files at these positions. For example, in a graph of three packages, let only
-- the third depend on another package, the first. Then 0 and 2 are such positions, and so is 0 alone, but 2 alone isn't.
pub record IsPart (graph : List Entry) (positions : List ℕ) : Type 0 where
  pub rising : IsStrictlyIncreasing positions
  pub within : All (λ position. position < length graph) positions
  pub closed : All (λ position. (other : Entry) → All (Contains positions) (slice_index_or graph position other).deps) positions
