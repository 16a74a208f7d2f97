-- The recorded artefact of each file of a graph whose latest record is current.
use Rattle.std.specs.Prelude.{ℕ, Bool, ◌&&◌, if◌then◌else◌, List, slice_get, Option, Some, None}
use Rattle.std.specs.Option.{option_and_then}
use Rattle.std.specs.Str.{bytes_eq}
use Rattle.std.specs.Cmp.Lexicographic.{pointwise}
use Rattle.base.specs.declared.file.FileName.{FileName}
use Rattle.base.specs.declared.graph.Entry.{Entry}
use Rattle.base.specs.declared.graph.BuiltFile.{BuiltFile}
use Rattle.base.specs.Names.{is_same_name}
use Rattle.outside.specs.Records.{Asked, Record, asked_of}

-- the same name and artefact
abbrev pub is_same_built : BuiltFile → BuiltFile → Bool
is_same_built a b = is_same_name a.name b.name && bytes_eq a.artefact b.artefact

-- the same words, name, text and files below
unfoldable pub is_same_asked : Asked → Asked → Bool
is_same_asked a b = pointwise bytes_eq a.command b.command && is_same_name a.name b.name && bytes_eq a.text b.text && pointwise is_same_built a.below b.below

-- the artefact of a record, if the record has these inputs of the compiler
abbrev pub artefact_for : Asked → Record → Option (List ℕ)
artefact_for asked kept = if is_same_asked kept.asked asked then Some kept.artefact else None

-- the artefact of the latest record of the file at a position, if that record has the compiler's inputs for the file over these
-- files
unfoldable pub current_by_request : (FileName → Option Record) → List Entry → ℕ → List BuiltFile → Option (List ℕ)
current_by_request latest_of graph at built = option_and_then (λ entry. option_and_then (artefact_for (asked_of entry built)) (latest_of entry.name)) (slice_get graph at)
