-- The latest records of the files of a graph, and which of them have what would be asked now.
use Rattle.std.specs.Prelude.{◌≡◌, ℕ, ◌<◌, List, length, slice_get, slice_index_or, Option, Some, None, true}
use Rattle.std.specs.Option.{option_map}
use Rattle.base.specs.declared.file.FileName.{FileName}
use Rattle.base.specs.declared.graph.Entry.{Entry}
use Rattle.outside.specs.Records.{Record as RequestRecord, built_of_record, latest as latest_request}
use Rattle.store_codec.specs.RecordTables.{RecordTable, product_at}
use Rattle.store.specs.declared.handles.RecordHandle.{RecordHandle}

-- a handle has the number of the latest record of a name, and that of its product
pub record HasRecordHandle (table : RecordTable) (name : FileName) (handle : RecordHandle) : Type 0 where
  pub row : handle.row < length table.records
  pub latest : latest_request name table.records ≡ slice_get table.records handle.row
  pub product : handle.product < length table.products
  pub built : (kept : RequestRecord) → slice_get table.records handle.row ≡ Some kept → product_at table.products handle.product ≡ built_of_record kept

-- the handle of a name, or none where the name has no record
abbrev pub IsRecordHandle : RecordTable → FileName → Option RecordHandle → Type 0
IsRecordHandle table name None = latest_request name table.records ≡ None
IsRecordHandle table name (Some handle) = HasRecordHandle table name handle

-- the record of a handle has the text of a file, where the handle says so
abbrev pub HasTextSaid : RecordTable → Entry → Option RecordHandle → Type 0
HasTextSaid table entry None = Unit {0}
HasTextSaid table entry (Some handle) = handle.has_text ≡ true → (kept : RequestRecord) → slice_get table.records handle.row ≡ Some kept → kept.asked.text ≡ entry.text

-- one handle, or none, for each file of a graph, by its name
pub record AreRecordHandles (table : RecordTable) (graph : List Entry) (handles : List (Option RecordHandle)) : Type 0 where
  pub each : length handles ≡ length graph
  pub is : (at : ℕ) (other : Entry) → at < length graph → IsRecordHandle table (slice_index_or graph at other).name (slice_index_or handles at None)
  pub texts : (at : ℕ) (other : Entry) → at < length graph → HasTextSaid table (slice_index_or graph at other) (slice_index_or handles at None)

-- the number of the product of a position, if it has a handle
abbrev pub looked_up_product : List (Option RecordHandle) → ℕ → Option ℕ
looked_up_product handles at = option_map (λ handle. handle.product) (slice_index_or handles at None)

-- The product of a number is what the latest record of a name built.
pub record HasLatestProduct (table : RecordTable) (name : FileName) (product : ℕ) : Type 0 where
  pub kept : RequestRecord
  pub latest : latest_request name table.records ≡ Some kept
  pub there : product < length table.products
  pub built : product_at table.products product ≡ built_of_record kept

-- the number of the product that the latest record of a name built, or none where the name has no record
abbrev pub IsLatestProduct : RecordTable → FileName → Option ℕ → Type 0
IsLatestProduct table name None = latest_request name table.records ≡ None
IsLatestProduct table name (Some product) = HasLatestProduct table name product
