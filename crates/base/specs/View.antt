-- The view of a file: the file with all files that it depends on, as a graph of their own.
use Rattle.std.specs.Prelude.{◌≡◌, ℕ, ◌+◌, ◌<◌, List, [], ◌∷◌, ◌++◌, ◌==◌, length, map, Contains, slice_get, slice_index_or}
use Rattle.std.specs.List.{filter_map, position_or_len}
use Rattle.std.specs.Option.{option_map_or}
use Rattle.base.specs.declared.graph.Entry.{Entry}

-- the positions of a view's files in the graph: the dependencies of the file, then the file itself
unfoldable pub viewed : List Entry → ℕ → List ℕ
viewed graph at = option_map_or (λ entry. entry.deps ++ at ∷ []) (slice_get graph at) []

-- the new position of a file in a part, from its old one
abbrev pub rank_in : List ℕ → ℕ → ℕ
rank_in positions position = position_or_len (λ other. other == position) positions

-- a file whose dependencies have their new numbers
abbrev pub renumbered : List ℕ → Entry → Entry
renumbered positions entry = record { name = entry.name; command = entry.command; text = entry.text; deps = map (rank_in positions) entry.deps }

-- The files at these positions, in order, as a graph of their own with new positions. Dependencies outside of the part
-- are left out.
unfoldable pub part : List Entry → List ℕ → List Entry
part graph positions = map (renumbered positions) (filter_map (slice_get graph) positions)

-- a file of a graph with all that it depends on, as a graph of its own with new positions
abbrev pub view : List Entry → ℕ → List Entry
view graph at = part graph (viewed graph at)

-- at least one file, and the last file depends on all others
pub record IsView (view : List Entry) : Type 0 where
  pub some : 0 < length view
  pub whole : (last rank : ℕ) (other : Entry) → last + 1 ≡ length view → rank < last → Contains (slice_index_or view last other).deps rank
