-- Payloads with what they stand for.
use Rattle.std.specs.Prelude.{◌≡◌, ℕ, ◌-◌, ◌<◌, min, List, [], length, map, slice_get, slice_index_or, Option, Some, None}
use Rattle.std.specs.Vec.{vec_len, vec_capacity}
use Rattle.base.specs.declared.file.FileName.{FileName}
use Rattle.base.specs.declared.graph.Entry.{Entry}
use Rattle.outside.specs.Records.{Record as RequestRecord, latest as latest_request}
use Rattle.base_bytes.specs.Ranges.{counted_words}
use Rattle.store_codec.specs.RecordTables.{record_table_of}
use Rattle.store_table.specs.declared.table.LocatedTable.{LocatedTable}
use Rattle.store_table.specs.declared.table.RecordRow.{RecordRow}
use Rattle.store_table.specs.Located.{HeldList, nth_payload, row_deps, text_room}
use Rattle.store.specs.declared.handles.RecordHandle.{RecordHandle}
use Rattle.store.specs.LookedUp.{looked_up_product}

-- payloads in order, the names that are numbered, the texts of files that are borrowed, and for how many more payloads there is room
pub record HeldState : Type 0 where
  pub payloads : List (List ℕ)
  pub names : List FileName
  pub borrowed : List (List ℕ)
  pub room : ℕ

-- payloads that were taken, in order, and the texts of files that are borrowed
pub record TakenState : Type 0 where
  pub taken : List (List ℕ)
  pub borrowed : List (List ℕ)

-- each text that is borrowed is that of the file of its number
abbrev pub AreBorrowedBy : List Entry → List (List ℕ) → Type 0
AreBorrowedBy files borrowed = (number : ℕ) (other : Entry) → number < length borrowed → slice_index_or borrowed number [] ≡ (slice_index_or files number other).text

-- the least room of the lists and tables that a payload adds to; unless it is 0, one more record fits, with two texts and one that a file lends
abbrev pub held_room : HeldList → LocatedTable → ℕ
held_room held table = min held.room (min (text_room table.texts - 2) (min table.products.room (min (vec_capacity table.rows - vec_len table.rows) table.latest.room)))

-- the latest record of a name
abbrev pub latest_held : List (List ℕ) → FileName → Option RequestRecord
latest_held payloads name = latest_request name (record_table_of payloads).records

-- the latest record of a name has this number; without a number, no record has the name
abbrev pub IsLatestRow : List RequestRecord → FileName → Option ℕ → Type 0
IsLatestRow records name None = latest_request name records ≡ None
IsLatestRow records name (Some number) = (number < length records) × (latest_request name records ≡ slice_get records number)

-- the words, the text and the products of a record are those of a file, whose dependencies have handles
pub record IsAskedRow (payloads texts : List (List ℕ)) (row : RecordRow) (entry : Entry) (handles : List (Option RecordHandle)) : Type 0 where
  pub words : counted_words (nth_payload payloads row.payload) row.words ≡ entry.command
  pub text : slice_index_or texts row.text [] ≡ entry.text
  pub deps : map (λ n. Some n) (row_deps payloads row) ≡ map (looked_up_product handles) entry.deps
