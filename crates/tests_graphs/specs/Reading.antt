-- Reading a record from start to end: the files and the artefact, whether or not they are a view.
use Rattle.std.specs.Prelude.{ℕ, List, ◌==◌, ◌&&◌, nat_le, length, Option, Some, None, if◌then◌else◌}
use Rattle.std.specs.Int.{w32}
use Rattle.base.specs.declared.graph.Entry.{Entry}
use Rattle.base_bytes.specs.Reading.{◌>>=◌, number_at, text_at, counted_at}
use Rattle.base_bytes.specs.Names.{name_at}
use Rattle.base.specs.declared.limits.TheConstants.{ARTEFACT_LIMIT}
use Rattle.store_form_2.specs.Views.{is_view}

-- a file: its name, its command, its text, and the positions that it depends on, of four bytes each; and the bytes after it
unfoldable pub entry_at : List ℕ → Option (Entry × List ℕ)
entry_at bytes = do
  name ← name_at bytes
  command ← counted_at text_at name.1
  text ← text_at command.1
  deps ← counted_at (number_at w32) text.1
  Some (record { name = name.0; command = command.0; text = text.0; deps = deps.0 }, deps.1)

-- all of the bytes
unfoldable pub record_read_at : List ℕ → Option (List Entry × List ℕ)
record_read_at bytes = do
  view ← counted_at entry_at bytes
  artefact ← text_at view.1
  if length artefact.1 == 0 then Some (view.0, artefact.0) else None

-- the record whose bytes these are: small tests tell whether the files are a view
unfoldable pub record_in : List ℕ → Option (List Entry × List ℕ)
record_in bytes = do
  found ← record_read_at bytes
  if is_view found.0 && nat_le (length found.1) ARTEFACT_LIMIT then Some found else None
