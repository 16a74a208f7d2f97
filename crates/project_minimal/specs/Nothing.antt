-- The entry that replaces a file that was taken out of a graph.
use Rattle.std.specs.Prelude.{[]}
use Rattle.base.specs.declared.graph.Entry.{Entry}

-- an entry without name and text, for positions past the end
abbrev pub no_entry : Entry
no_entry = record { name = record { library = []; path = [] }; command = []; text = []; deps = [] }
