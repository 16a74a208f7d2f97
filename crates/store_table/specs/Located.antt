-- Texts, products and records as indices in payloads.
use Rattle.std.specs.Prelude.{◌≡◌, ◌≢◌, ℕ, ◌<◌, ◌≤◌, ◌-◌, List, [], ◌++◌, length, map, take, drop, min, All, AllPairs, slice_index_or}
use Rattle.std.specs.Vec.{vec_len, vec_capacity}
use Rattle.base.specs.declared.file.FileName.{FileName}
use Rattle.base.specs.declared.graph.BuiltFile.{BuiltFile}
use Rattle.base.specs.declared.graph.Entry.{Entry}
use Rattle.base_collections.specs.Splits.{AreSplit}
use Rattle.outside.specs.Records.{Record as RequestRecord}
use Rattle.base_bytes.specs.Ranges.{counted_numbers, counted_words, ranged}
use Rattle.store_codec.specs.RecordTables.{RecordTable, product_at, record_table_of}
use Rattle.store_table.specs.declared.held.CutPayload.{CutPayload}
use Rattle.store_table.specs.declared.held.HeldPayload.{HeldPayload}
use Rattle.store_table.specs.declared.held.HeldPayload.TheVariants.{Whole, Cut, Written}
use Rattle.store_table.specs.declared.products.ProductRow.{ProductRow}
use Rattle.store_table.specs.declared.texts.LocatedText.{LocatedText}
use Rattle.store_table.specs.declared.texts.LocatedTexts.{LocatedTexts}
use Rattle.store_table.specs.declared.table.RecordRow.{RecordRow}
use Rattle.store_table.specs.declared.table.LocatedTable.{LocatedTable}

-- Segments of bytes, held or borrowed, and the payloads that they form, in order. The first segments are the borrowed texts of
-- files. `room` is the number of payloads that can still be added.
pub record HeldList : Type 0 where
  pub segments : List (List ℕ)
  pub payloads : List (List ℕ)
  pub borrowed : List (List ℕ)
  pub room : ℕ

-- the bytes of a payload that are held
abbrev pub held_segment : HeldPayload → List ℕ
held_segment (Whole payload) = payload
held_segment (Cut cut) = cut.rest
held_segment (Written payload) = payload

-- a payload from which a text was cut, with that text
abbrev pub with_cut : List ℕ → CutPayload → List ℕ
with_cut text cut = take cut.at cut.rest ++ (text ++ drop cut.at cut.rest)

-- a payload, by the texts of files
abbrev pub held_payload : List (List ℕ) → HeldPayload → List ℕ
held_payload texts (Whole payload) = payload
held_payload texts (Cut cut) = with_cut (slice_index_or texts cut.file []) cut
held_payload texts (Written payload) = payload

-- the texts of files, in order
abbrev pub file_texts : List Entry → List (List ℕ)
file_texts files = map (λ file. file.text) files

-- first the texts of files, then what a store was opened with, then each payload that came later
abbrev pub held_segments : List Entry → List (List ℕ) → List HeldPayload → List (List ℕ)
held_segments files opened more = file_texts files ++ (opened ++ map held_segment more)

-- The payloads in order: first the ones that a store was opened with, then the later ones. If the text of a file was cut from a
-- later payload, it is put back.
abbrev pub held_payloads : List Entry → List (List ℕ) → List HeldPayload → List (List ℕ)
held_payloads files opened more = opened ++ map (held_payload (file_texts files)) more

-- the payload of a number; no bytes where no payload has it
abbrev pub nth_payload : List (List ℕ) → ℕ → List ℕ
nth_payload payloads number = slice_index_or payloads number []

-- the text at a range of a payload
abbrev pub located_text : List (List ℕ) → LocatedText → List ℕ
located_text payloads found_index = ranged (nth_payload payloads found_index.payload) found_index.range

-- the texts at all indices, in the order of their numbers
abbrev pub located_texts : List (List ℕ) → LocatedTexts → List (List ℕ)
located_texts payloads texts = map (located_text payloads) texts.indices.items

-- Texts are in payloads that are there, and each comes to its own number.
pub record AreTextsLocated (payloads : List (List ℕ)) (texts : LocatedTexts) : Type 0 where
  pub within : All (λ found_index. found_index.payload < length payloads) texts.indices.items
  pub split : AreSplit (located_texts payloads texts) texts.index.splits

-- an empty name, for a number that no name has
abbrev pub no_name : FileName
no_name = record { library = []; path = [] }

-- the product of a row of numbers
abbrev pub row_product : List FileName → List (List ℕ) → ProductRow → BuiltFile
row_product names texts row = record { name = slice_index_or names row.name no_name; artefact = slice_index_or texts row.text [] }

-- the products of all rows, in order
abbrev pub row_products : List FileName → List (List ℕ) → List ProductRow → List BuiltFile
row_products names texts rows = map (row_product names texts) rows

-- the numbers of the products that a record depends on
abbrev pub row_deps : List (List ℕ) → RecordRow → List ℕ
row_deps payloads row = counted_numbers (nth_payload payloads row.payload) row.deps

-- the record of a row, over texts and products
abbrev pub row_record : List (List ℕ) → List FileName → List (List ℕ) → List BuiltFile → RecordRow → RequestRecord
row_record payloads names texts products row = record { asked = record { command = counted_words (nth_payload payloads row.payload) row.words; name = slice_index_or names row.name no_name; text = slice_index_or texts row.text []; below = map (product_at products) (row_deps payloads row) }; artefact = (product_at products row.product).artefact }

-- what rows of numbers stand for
abbrev pub table_by : List (List ℕ) → List FileName → List (List ℕ) → List ProductRow → List RecordRow → RecordTable
table_by payloads names texts products rows = record { texts = texts; products = row_products names texts products; records = map (row_record payloads names texts (row_products names texts products)) rows }

-- the texts, products and records that are placed in payloads
abbrev pub located_table : List (List ℕ) → LocatedTable → RecordTable
located_table payloads table = table_by payloads table.names.keys (located_texts payloads table.texts) table.products.keys table.rows.items

-- a row of zeros, for a number that no product has
abbrev pub no_row : ProductRow
no_row = record { name = 0; text = 0 }

-- the numbers of a product are those of a name and a text
pub record IsProductRow (names : List FileName) (texts : List (List ℕ)) (row : ProductRow) : Type 0 where
  pub name : row.name < length names
  pub text : row.text < length texts

-- the numbers of a record are those of a payload, a name, a text and products, of which its own has its name
pub record IsRecordRow (payloads : List (List ℕ)) (names : List FileName) (texts : List (List ℕ)) (products : List ProductRow) (row : RecordRow) : Type 0 where
  pub payload : row.payload < length payloads
  pub name : row.name < length names
  pub text : row.text < length texts
  pub product : row.product < length products
  pub own : (slice_index_or products row.product no_row).name ≡ row.name
  pub deps : All (λ dep. dep < length products) (row_deps payloads row)

-- Rows have numbers that are there.
pub record AreRowsLocated (payloads : List (List ℕ)) (names : List FileName) (texts : List (List ℕ)) (products : List ProductRow) (rows : List RecordRow) : Type 0 where
  pub products_are : All (IsProductRow names texts) products
  pub rows_are : All (IsRecordRow payloads names texts products) rows

-- What is placed is in payloads that are there, and records are found by the numbers of their names.
pub record IsTableLocated (payloads : List (List ℕ)) (table : LocatedTable) : Type 0 where
  pub texts : AreTextsLocated payloads table.texts
  pub rows : AreRowsLocated payloads table.names.keys (located_texts payloads table.texts) table.products.keys table.rows.items
  pub names_once : AllPairs (λ a b. a ≢ b) table.names.keys
  pub latest : table.latest.fingerprints ≡ map (λ row. row.name) table.rows.items

-- Segments make up payloads, and a table that is placed in the segments is what the payloads stand for.
pub record IsHeld (segments payloads : List (List ℕ)) (table : LocatedTable) : Type 0 where
  pub are : IsTableLocated segments table
  pub is : located_table segments table ≡ record_table_of payloads

-- for how many more texts there is room
abbrev pub text_room : LocatedTexts → ℕ
text_room texts = min (vec_capacity texts.indices - vec_len texts.indices) texts.index.room

-- There is room for what one record adds: this many texts, a product, a row, and the number of its name.
pub record HasRowRoom (count : ℕ) (table : LocatedTable) : Type 0 where
  pub texts : count ≤ text_room table.texts
  pub product : 0 < table.products.room
  pub row : vec_len table.rows < vec_capacity table.rows
  pub latest : 0 < table.latest.room
