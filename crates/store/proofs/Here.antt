-- The record handle, text, command and dependencies of the file at a position.
use Rattle.std.proofs.Common.{◌≡◌, ℕ, ◌<◌, List, length, map, get_or, None, Some, Option, false, sym, ap, subst, ◌∙◌, arith}
use Rattle.std.specs.Prelude.{All, slice_get}
use Rattle.std.proofs.lemmas.List.{get_or-map, length-map}
use Rattle.std.proofs.lemmas.Option.{get_or_from_slice_get, same_Some, slice_get-get_or, slice_get_within}
use Rattle.base.specs.declared.file.FileName.{FileName}
use Rattle.base.specs.declared.graph.BuiltFile.{BuiltFile}
use Rattle.base.specs.declared.graph.Entry.{Entry}
use Rattle.base.specs.Graphs.{IsGraph}
use Rattle.outside.specs.Records.{Record as RequestRecord, built_of_record}
use Rattle.store_codec.specs.RecordTables.{RecordTable, product_at, no_product}
use Rattle.store_table.specs.declared.products.ProductRow.{ProductRow}
use Rattle.store_table.specs.declared.table.RecordRow.{RecordRow}
use Rattle.store_table.specs.Located.{AreRowsLocated, IsRecordRow, no_name, no_row, row_product, row_products, row_record, table_by}
use Rattle.store.specs.declared.handles.RecordHandle.{RecordHandle}
use Rattle.store.specs.Held.{IsLatestRow}
use Rattle.store.specs.LookedUp.{AreRecordHandles, HasRecordHandle, HasTextSaid, IsRecordHandle}

pub handle_here : (table : RecordTable) (graph : List Entry) (handles : List (Option RecordHandle)) (at : ℕ) (entry : Entry) (handle : Option RecordHandle) → AreRecordHandles table graph handles → slice_get graph at ≡ Some entry → get_or handles at None ≡ handle → IsRecordHandle table entry.name handle
handle_here table graph handles at entry handle are found e =
    subst (IsRecordHandle table entry.name) e
    (subst (λ (f : Entry). IsRecordHandle table f.name (get_or handles at None)) (get_or_from_slice_get graph at entry entry found) (are.is at entry (slice_get_within graph at entry found)))

pub text_here : (table : RecordTable) (graph : List Entry) (handles : List (Option RecordHandle)) (at : ℕ) (entry : Entry) (handle : Option RecordHandle) → AreRecordHandles table graph handles → slice_get graph at ≡ Some entry → get_or handles at None ≡ handle → HasTextSaid table entry handle
text_here table graph handles at entry handle are found e =
    subst (HasTextSaid table entry) e
    (subst (λ (f : Entry). HasTextSaid table f (get_or handles at None)) (get_or_from_slice_get graph at entry entry found) (are.texts at entry (slice_get_within graph at entry found)))

pub command_some : (graph : List Entry) (at : ℕ) (entry : Entry) → IsGraph graph → slice_get graph at ≡ Some entry → 0 < length entry.command
command_some graph at entry is found =
    let here : get_or graph at entry ≡ entry = get_or_from_slice_get graph at entry entry found in
    omega (arith, (is.each at entry (slice_get_within graph at entry found)).command.count.at_least, ap (λ (e : Entry). length e.command) here)

pub deps_low : (graph : List Entry) (at : ℕ) (entry : Entry) → IsGraph graph → slice_get graph at ≡ Some entry → All (λ dep. dep < length graph) entry.deps
deps_low graph at entry is found =
    let here : get_or graph at entry ≡ entry = get_or_from_slice_get graph at entry entry found in
    let low : at < length graph = slice_get_within graph at entry found in
    let before : All (λ dep. dep < at) entry.deps = subst (λ (e : Entry). All (λ dep. dep < at) e.deps) here (is.each at entry low).before in
    λ k d l. (let b = before k d l in omega (arith, b, low))

module _ (payloads : List (List ℕ)) (names : List FileName) (texts : List (List ℕ)) (rows : List ProductRow) (records : List RecordRow) (are : AreRowsLocated payloads names texts rows records) (n : ℕ) (row : RecordRow) (low : n < length records) (here : row ≡ get_or records n row) where
  pub row_is : IsRecordRow payloads names texts rows row
  row_is = subst (IsRecordRow payloads names texts rows) (sym here) (are.rows_are n row low)

  -- the record of the row
  pub record_at : slice_get (table_by payloads names texts rows records).records n ≡ Some (row_record payloads names texts (row_products names texts rows) row)
  record_at =
      let f = row_record payloads names texts (row_products names texts rows) in
      slice_get-get_or (map (row_record payloads names texts (row_products names texts rows)) records) n (row_record payloads names texts (row_products names texts rows) row) (omega (arith, low, length-map records (row_record payloads names texts (row_products names texts rows))))
      ∙ ap (λ (r : RequestRecord). Some r) (get_or-map (row_record payloads names texts (row_products names texts rows)) records n row (row_record payloads names texts (row_products names texts rows) row) low ∙ ap (row_record payloads names texts (row_products names texts rows)) (sym here))

  product_row : ProductRow
  product_row = get_or rows row.product no_row

  -- its product is what it built
  pub product_is : product_at (row_products names texts rows) row.product ≡ built_of_record (row_record payloads names texts (row_products names texts rows) row)
  product_is =
      let is = row_is in
      let at : product_at (row_products names texts rows) row.product ≡ row_product names texts (get_or rows row.product no_row) = get_or-map (row_product names texts) rows row.product no_row no_product is.product in
      let name : (product_at (row_products names texts rows) row.product).name ≡ get_or names row.name no_name = ap (λ (f : BuiltFile). f.name) at ∙ ap (λ (k : ℕ). get_or names k no_name) is.own in
      ap (λ (k : FileName). record { name = k; artefact = (product_at (row_products names texts rows) row.product).artefact }) name

  -- the handle of a latest record
  pub handle_is : (name : FileName) → IsLatestRow (table_by payloads names texts rows records).records name (Some n) → HasRecordHandle (table_by payloads names texts rows records) name (record { row = n; product = row.product; has_text = false })
  handle_is name is = record {
    row = is.0;
    latest = is.1;
    product = omega (arith, row_is.product, length-map rows (row_product names texts));
    built = λ kept e. product_is ∙ ap built_of_record (same_Some _ _ (sym record_at ∙ e));
  }

  pub artefact_is : (kept : RequestRecord) → slice_get (table_by payloads names texts rows records).records n ≡ Some kept → (product_at (row_products names texts rows) row.product).artefact ≡ kept.artefact
  artefact_is kept e = ap (λ (r : RequestRecord). r.artefact) (same_Some _ _ (sym record_at ∙ e))
