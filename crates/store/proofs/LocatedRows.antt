-- What the rows of a placed table stand for.
use Rattle.std.proofs.Common.{◌≡◌, ℕ, ◌<◌, List, [], length, map, get_or, Some, sym, ap, ◌∙◌, arith}
use Rattle.std.specs.Prelude.{All, slice_get}
use Rattle.std.proofs.lemmas.List.{get_or-map, get_or_default, length-map}
use Rattle.std.proofs.lemmas.Option.{get_or_from_slice_get}
use Rattle.base.specs.declared.file.FileName.{FileName}
use Rattle.base.specs.declared.graph.BuiltFile.{BuiltFile}
use Rattle.outside.specs.Records.{Record as RequestRecord, built_of_record}
use Rattle.base_bytes.specs.Ranges.{counted_words}
use Rattle.store_codec.specs.RecordTables.{no_product, product_at}
use Rattle.store_table.specs.declared.products.ProductRow.{ProductRow}
use Rattle.store_table.specs.declared.table.LocatedTable.{LocatedTable}
use Rattle.store_table.specs.declared.table.RecordRow.{RecordRow}
use Rattle.store_table.specs.Located.{IsRecordRow, IsTableLocated, no_name, no_row, nth_payload, located_table, located_text, located_texts, row_deps, row_product, row_products, row_record}
use Rattle.store_table.proofs.Puts.{no_record}
use Rattle.store.specs.Kept.{IsKeptRequest, IsKeptTable}
use Rattle.store.specs.Plans.{blank_request, table_record_at, text_of}

module _ (payloads : List (List ℕ)) (table : LocatedTable) (located : IsTableLocated payloads table) where
  abbrev texts : List (List ℕ)
  texts = located_texts payloads table.texts

  abbrev names : List FileName
  names = table.names.keys

  abbrev rows : List ProductRow
  rows = table.products.keys

  abbrev products : List BuiltFile
  products = row_products names texts rows

  pub products_count : length (located_table payloads table).products ≡ length table.products.keys
  products_count = length-map rows (row_product names texts)

  pub texts_count : length (located_table payloads table).texts ≡ length table.texts.indices.items
  texts_count = length-map table.texts.indices.items (located_text payloads)

  pub records_count : length (located_table payloads table).records ≡ length table.rows.items
  records_count = length-map table.rows.items (row_record payloads names texts products)

  -- a product
  module _ (product : ℕ) (low : product < length table.products.keys) where
    product_is : product_at (located_table payloads table).products product ≡ row_product names texts (get_or rows product no_row)
    product_is = get_or-map (row_product names texts) rows product no_row no_product low

    pub product_name : (product_at (located_table payloads table).products product).name ≡ get_or table.names.keys (get_or table.products.keys product no_row).name no_name
    product_name = ap (λ (f : BuiltFile). f.name) product_is

    pub product_artefact : (product_at (located_table payloads table).products product).artefact ≡ text_of (located_table payloads table).texts (get_or table.products.keys product no_row).text
    product_artefact = ap (λ (f : BuiltFile). f.artefact) product_is

    pub product_text_low : (get_or table.products.keys product no_row).text < length (located_table payloads table).texts
    product_text_low = (located.rows.products_are product no_row low).text

  -- a record
  module _ (n : ℕ) (low : n < length table.rows.items) where
    abbrev row : RecordRow
    row = get_or table.rows.items n no_record

    pub row_is : IsRecordRow payloads names texts rows (get_or table.rows.items n no_record)
    row_is = located.rows.rows_are n no_record low

    pub record_is : table_record_at (located_table payloads table).records n ≡ row_record payloads table.names.keys (located_texts payloads table.texts) (located_table payloads table).products (get_or table.rows.items n no_record)
    record_is = get_or-map (row_record payloads names texts products) table.rows.items n no_record _ low

    pub record_name : (table_record_at (located_table payloads table).records n).asked.name ≡ get_or table.names.keys (get_or table.rows.items n no_record).name no_name
    record_name = ap (λ (r : RequestRecord). r.asked.name) record_is

    pub record_text : (table_record_at (located_table payloads table).records n).asked.text ≡ text_of (located_table payloads table).texts (get_or table.rows.items n no_record).text
    record_text = ap (λ (r : RequestRecord). r.asked.text) record_is

    pub record_command : (table_record_at (located_table payloads table).records n).asked.command ≡ counted_words (nth_payload payloads (get_or table.rows.items n no_record).payload) (get_or table.rows.items n no_record).words
    record_command = ap (λ (r : RequestRecord). r.asked.command) record_is

    pub record_below : (table_record_at (located_table payloads table).records n).asked.below ≡ map (product_at (located_table payloads table).products) (row_deps payloads (get_or table.rows.items n no_record))
    record_below = ap (λ (r : RequestRecord). r.asked.below) record_is

    pub record_artefact : (table_record_at (located_table payloads table).records n).artefact ≡ (product_at (located_table payloads table).products (get_or table.rows.items n no_record).product).artefact
    record_artefact = ap (λ (r : RequestRecord). r.artefact) record_is

    -- its product is what it built
    pub record_built : built_of_record (table_record_at (located_table payloads table).records n) ≡ product_at (located_table payloads table).products (get_or table.rows.items n no_record).product
    record_built =
        let is = row_is in
        let name : (product_at products row.product).name ≡ get_or names row.name no_name = product_name row.product is.product ∙ ap (λ (k : ℕ). get_or names k no_name) is.own in
        ap built_of_record record_is ∙ ap (λ (k : FileName). record { name = k; artefact = (product_at products row.product).artefact }) (sym name)

    -- what was read of the row
    pub row_here : (row : RecordRow) → row ≡ get_or table.rows.items n row → row ≡ get_or table.rows.items n no_record
    row_here row is = is ∙ get_or_default table.rows.items n row no_record low

    -- the numbers of the products that it depends on
    pub deps_there : All (λ dep. dep < length table.products.keys) (row_deps payloads (get_or table.rows.items n no_record))
    deps_there = row_is.deps

    pub command_here : (row : RecordRow) (bytes : List ℕ) → row ≡ get_or table.rows.items n row → slice_get payloads row.payload ≡ Some bytes → (table_record_at (located_table payloads table).records n).asked.command ≡ counted_words bytes row.words
    command_here row bytes is found =
        record_command ∙ ap (λ (r : RecordRow). counted_words (nth_payload payloads r.payload) r.words) (sym (row_here row is)) ∙ ap (λ (bs : List ℕ). counted_words bs row.words) (get_or_from_slice_get payloads row.payload bytes [] found)

    pub kept_here : IsKeptTable (located_table payloads table) → IsKeptRequest (table_record_at (located_table payloads table).records n)
    kept_here kept = kept.records n blank_request (omega (arith, low, records_count))
