-- Files that can stand at their ranks in a graph.
use Rattle.std.specs.Prelude.{ℕ, ◌<◌, List, slice_index_or}
use Rattle.base.specs.declared.graph.Entry.{Entry}
use Rattle.base.specs.Graphs.{IsEntryAt}

-- the file at a rank is an entry of a graph at that rank
abbrev pub StandsAt : List Entry → ℕ → Type 0
StandsAt entries rank = (other : Entry) → IsEntryAt entries rank (slice_index_or entries rank other)

-- the file at each rank below a count is such an entry
abbrev pub StandBelow : List Entry → ℕ → Type 0
StandBelow entries count = (rank : ℕ) → rank < count → StandsAt entries rank
