-- The new numbers of the files of a view, in a table of the whole graph.
use Rattle.std.specs.Prelude.{◌≡◌, ℕ, ◌<◌, List, map, slice_index}
use Rattle.base.specs.declared.graph.Entry.{Entry}

-- a table that has the new numbers of the first positions
abbrev pub IsNumbered : List ℕ → List ℕ → ℕ → Type 0
IsNumbered table positions count = (number : ℕ) → number < count → slice_index table (slice_index positions number) ≡ number

-- a file whose dependencies have the numbers of a table
abbrev pub with_numbers : List ℕ → Entry → Entry
with_numbers table entry = record { name = entry.name; command = entry.command; text = entry.text; deps = map (slice_index table) entry.deps }
