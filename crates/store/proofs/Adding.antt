-- Handles where one more record was added.
use Rattle.std.proofs.Common.{◌≡◌, ◌≢◌, ℕ, ◌<◌, ◌≤◌, Bool, true, false, List, [], ◌∷◌, ◌++◌, length, get_or, set, None, Some, Option, true≢false, refl, sym, ap, subst, ◌∙◌, arith, inl, inr, length-append}
use Rattle.std.specs.Prelude.{slice_get, if◌then◌else◌}
use Rattle.std.specs.List.{list_any}
use Rattle.std.specs.Option.{option_or}
use Rattle.std.proofs.lemmas.Bool.{cases_eq, cases_lt}
use Rattle.std.proofs.lemmas.List.{get_or-set_other, get_or-set_same, get_or_append_left, get_or_at, get_or_default, length-map, length-set}
use Rattle.std.proofs.lemmas.Option.{slice_get-get_or}
use Rattle.base.specs.declared.file.FileName.{FileName}
use Rattle.base.specs.declared.graph.BuiltFile.{BuiltFile}
use Rattle.base.specs.declared.graph.Entry.{Entry}
use Rattle.base.specs.Graphs.{IsGraph}
use Rattle.base_collections.specs.NameLaws.{names_decide}
use Rattle.store_codec.specs.Forms.{RequestDraft}
use Rattle.store_codec.specs.Forms.RequestPayload.{OfRequest}
use Rattle.outside.specs.Records.{Record as RequestRecord, is_of as asks_for, latest as latest_request}
use Rattle.store_codec.specs.Ranges.{request_in_ranges}
use Rattle.store_codec.specs.RecordTables.{RecordTable, drafted_record, is_same_built, no_product, record_table_of, with_built, with_request}
use Rattle.store_table.specs.declared.table.LocatedTable.{LocatedTable}
use Rattle.store_table.specs.Located.{located_texts, row_products, row_record}
use Rattle.store_table.proofs.Keeping.{Keeps, keeps_more, keeps_self}
use Rattle.store_table.proofs.Takes.{table_more, took_payload, took_request}
use Rattle.store.specs.declared.additions.RequestAddition.{RequestAddition}
use Rattle.store.specs.declared.handles.RecordHandle.{RecordHandle}
use Rattle.store.specs.Additions.{AddsRequest, no_entry}
use Rattle.store.specs.Held.{IsLatestRow}
use Rattle.store_table.specs.Located.{IsHeld}
use Rattle.store.specs.LookedUp.{AreRecordHandles, HasRecordHandle, HasTextSaid, IsRecordHandle}

-- the payload adds the record
pub adds_table : (payloads : List (List ℕ)) (names : List FileName) (segment : List ℕ) (addition : RequestAddition) → AddsRequest payloads names segment addition → record_table_of (payloads ++ segment ∷ []) ≡ with_request (record_table_of payloads) (request_in_ranges segment addition.draft)
adds_table payloads names segment addition adds =
    let table : RecordTable = record_table_of payloads in
    let draft : RequestDraft = request_in_ranges segment addition.draft in
    table_more payloads segment ∙ sym (took_payload table segment (OfRequest draft) adds.read) ∙ sym (took_request table draft adds.request)

-- there are as many rows as records
pub rows_are_records : (segments payloads : List (List ℕ)) (table : LocatedTable) → IsHeld segments payloads table → length table.rows.items ≡ length (record_table_of payloads).records
rows_are_records segments payloads table is =
    sym (length-map table.rows.items (row_record segments table.names.keys (located_texts segments table.texts) (row_products table.names.keys (located_texts segments table.texts) table.products.keys))) ∙ ap (λ (s : RecordTable). length s.records) is.is

push_by : (b : Bool) (r : RequestRecord) (rest later : Option RequestRecord) (other : Option RequestRecord) → later ≡ (if b then Some r else rest) → option_or later other ≡ (if b then Some r else option_or rest other)
push_by true r rest later other e = ap (λ (o : Option RequestRecord). option_or o other) e
push_by false r rest later other e = ap (λ (o : Option RequestRecord). option_or o other) e

pub latest_push : (name : FileName) (records : List RequestRecord) (r : RequestRecord) → latest_request name (records ++ r ∷ []) ≡ (if asks_for name r then Some r else latest_request name records)
unfolding latest_request
latest_push name [] r = refl
latest_push name (first ∷ rest) r = push_by (asks_for name r) r (latest_request name rest) (latest_request name (rest ++ r ∷ [])) (if asks_for name first then Some first else None) (latest_push name rest r)

pub latest_own : (name : FileName) (records : List RequestRecord) (r : RequestRecord) → r.asked.name ≡ name → latest_request name (records ++ r ∷ []) ≡ Some r
latest_own name records r e = latest_push name records r ∙ ap (λ (b : Bool). if b then Some r else latest_request name records) ((names_decide r.asked.name name).1 e)

pub latest_other : (name : FileName) (records : List RequestRecord) (r : RequestRecord) → r.asked.name ≢ name → latest_request name (records ++ r ∷ []) ≡ latest_request name records
latest_other name records r other = latest_push name records r ∙ ap (λ (b : Bool). if b then Some r else latest_request name records) (by (asks_for name r) refl)
  where
    by : (b : Bool) → asks_for name r ≡ b → b ≡ false
    by true e = absurd (other ((names_decide r.asked.name name).0 e))
    by false e = refl

above : (k at : ℕ) → at ≤ k → k ≢ at → at < k
above k at a e = elim (cases_lt at k) [
  | inl b ↦ b
  | inr b ↦ absurd (e (omega (arith, a, b)))
]

keeps_built : (products : List BuiltFile) (own : BuiltFile) → Keeps products (with_built products own)
keeps_built products own = by (list_any (is_same_built own) products)
  where
    by : (b : Bool) → Keeps products (if b then products else products ++ own ∷ [])
    by true = keeps_self products
    by false = keeps_more products (own ∷ []) (products ++ own ∷ []) refl

module _ (table : RecordTable) (draft : RequestDraft) where
  added : RequestRecord
  added = drafted_record table draft

  -- a handle of another name
  handle_stays : (name : FileName) (handle : Option RecordHandle) → draft.name ≢ name → IsRecordHandle table name handle → IsRecordHandle (with_request table draft) name handle
  handle_stays name None other is = latest_other name table.records (drafted_record table draft) other ∙ is
  handle_stays name (Some handle) other has =
      let kept = keeps_built table.products _ in
      let row_same : (r : RequestRecord) → slice_get (table.records ++ drafted_record table draft ∷ []) handle.row ≡ Some r → slice_get table.records handle.row ≡ Some r =
      λ r e. slice_get-get_or table.records handle.row r has.row ∙ ap (λ (x : RequestRecord). Some x) (sym (get_or_append_left table.records (drafted_record table draft ∷ []) r handle.row has.row)) ∙ sym (slice_get-get_or (table.records ++ drafted_record table draft ∷ []) handle.row r (omega (arith, has.row, length-append table.records (drafted_record table draft ∷ [])))) ∙ e in
      let r : RequestRecord = drafted_record table draft in
      let there : slice_get (table.records ++ drafted_record table draft ∷ []) handle.row ≡ slice_get table.records handle.row =
      slice_get-get_or (table.records ++ drafted_record table draft ∷ []) handle.row r (omega (arith, has.row, length-append table.records (drafted_record table draft ∷ []))) ∙ ap (λ (x : RequestRecord). Some x) (get_or_append_left table.records (drafted_record table draft ∷ []) r handle.row has.row) ∙ sym (slice_get-get_or table.records handle.row r has.row) in
      record {
        row = omega (arith, has.row, length-append table.records (drafted_record table draft ∷ []));
        latest = latest_other name table.records (drafted_record table draft) other ∙ has.latest ∙ sym there;
        product = omega (arith, has.product, kept.longer);
        built = λ x e. kept.same handle.product no_product has.product ∙ has.built x (row_same x e);
      }

  -- what a handle says of a text is so still
  text_stays : (entry : Entry) (handle : Option RecordHandle) → IsRecordHandle table entry.name handle → HasTextSaid table entry handle → HasTextSaid (with_request table draft) entry handle
  text_stays entry None has says = tt
  text_stays entry (Some handle) has says = λ told r e.
      let new : RequestRecord = drafted_record table draft in
      let there : slice_get (table.records ++ new ∷ []) handle.row ≡ slice_get table.records handle.row =
      slice_get-get_or (table.records ++ new ∷ []) handle.row new (omega (arith, has.row, length-append table.records (new ∷ []))) ∙ ap (λ (x : RequestRecord). Some x) (get_or_append_left table.records (new ∷ []) new handle.row has.row) ∙ sym (slice_get-get_or table.records handle.row new has.row) in
      says told r (sym there ∙ e)

  -- the row of the new record is the latest of its name
  pub own_row : IsLatestRow (with_request table draft).records draft.name (Some (length table.records))
  own_row = (
    omega (arith, length-append table.records (drafted_record table draft ∷ [])),
    latest_own draft.name table.records (drafted_record table draft) refl
        ∙ sym (slice_get-get_or (table.records ++ drafted_record table draft ∷ []) (length table.records) (drafted_record table draft) (omega (arith, length-append table.records (drafted_record table draft ∷ []))) ∙ ap (λ (x : RequestRecord). Some x) (get_or_at table.records (drafted_record table draft) [] (drafted_record table draft) (length table.records) refl)),
  )

  pub handles_added : (graph : List Entry) (handles : List (Option RecordHandle)) (at : ℕ) (handle : RecordHandle) → IsGraph graph → AreRecordHandles table graph handles → at < length handles → handle.has_text ≡ false → (get_or graph at no_entry).name ≡ draft.name → HasRecordHandle (with_request table draft) draft.name handle → AreRecordHandles (with_request table draft) graph (set handles at (Some handle))
  handles_added graph handles at handle is are low silent named has = record {
    each = length-set handles at (Some handle) ∙ are.each;
    is = λ k other l. elim (cases_eq k at) [
      | inl e ↦
          let name : (get_or graph k other).name ≡ draft.name = ap (λ (f : Entry). f.name) (get_or_default graph k other no_entry l ∙ ap (λ (n : ℕ). get_or graph n no_entry) e) ∙ named in
          let here : get_or (set handles at (Some handle)) k None ≡ Some handle = ap (λ (n : ℕ). get_or (set handles at (Some handle)) n None) e ∙ get_or-set_same handles at (Some handle) None low in
          subst (λ (o : Option RecordHandle). IsRecordHandle (with_request table draft) (get_or graph k other).name o) (sym here) (subst (λ (n : FileName). HasRecordHandle (with_request table draft) n handle) (sym name) has)
      | inr e ↦
          let here : get_or (set handles at (Some handle)) k None ≡ get_or handles k None = get_or-set_other handles at k (Some handle) None e in
          let at_low : at < length graph = omega (arith, low, are.each) in
          let other_name : draft.name ≢ (get_or graph k other).name = λ f. differ k other l e at_low (sym f ∙ sym named) in
          subst (λ (o : Option RecordHandle). IsRecordHandle (with_request table draft) (get_or graph k other).name o) (sym here) (handle_stays (get_or graph k other).name (get_or handles k None) other_name (are.is k other l))
    ];
    texts = λ k other l. elim (cases_eq k at) [
      | inl e ↦
          let here : get_or (set handles at (Some handle)) k None ≡ Some handle = ap (λ (n : ℕ). get_or (set handles at (Some handle)) n None) e ∙ get_or-set_same handles at (Some handle) None low in
          subst (HasTextSaid (with_request table draft) (get_or graph k other)) (sym here) (λ says. absurd (true≢false (sym says ∙ silent)))
      | inr e ↦
          let here : get_or (set handles at (Some handle)) k None ≡ get_or handles k None = get_or-set_other handles at k (Some handle) None e in
          subst (HasTextSaid (with_request table draft) (get_or graph k other)) (sym here) (text_stays (get_or graph k other) (get_or handles k None) (are.is k other l) (are.texts k other l))
    ];
  }
    where
      differ : (k : ℕ) (other : Entry) → k < length graph → k ≢ at → at < length graph → (get_or graph k other).name ≢ (get_or graph at no_entry).name
      differ k other l e at_low f = elim (cases_lt k at) [
        | inl a ↦ is.distinct k at no_entry a at_low (ap (λ (x : Entry). x.name) (get_or_default graph k no_entry other l) ∙ f)
        | inr a ↦ is.distinct at k no_entry (above k at a e) l (sym (ap (λ (x : Entry). x.name) (get_or_default graph k no_entry other l) ∙ f))
      ]
