-- The record table after a draft is taken up.
use Rattle.std.proofs.Common.{◌≡◌, ℕ, Bool, true, false, List, [], ◌∷◌, ◌++◌, map, get_or, Option, None, Some, refl, sym, ap, ◌∙◌, inl, inr}
use Rattle.std.specs.Bool.{Decides}
use Rattle.std.specs.Option.{option_map_or}
use Rattle.std.proofs.lemmas.List.{append-nil, length-map}
use Rattle.std.proofs.lemmas.List.Sums.{fold_push}
use Rattle.base.specs.declared.file.FileName.{FileName}
use Rattle.base.specs.declared.graph.BuiltFile.{BuiltFile}
use Rattle.base_collections.specs.Numbers.{IsNumbered}
use Rattle.store_codec.specs.Forms.{ProductDraft, RequestDraft, RequestPayload, request_payload_in}
use Rattle.store_codec.specs.Forms.RequestPayload.{OfProduct, OfRequest}
use Rattle.outside.specs.Records.{Record as RequestRecord}
use Rattle.store_codec.specs.RecordTables.{IsNewProduct, IsRequest, RecordTable, after_request_payload, bare_table, is_new_product, is_request, record_table_of, with_product, with_request, with_request_payload}
use Rattle.store_codec.proofs.Deciding.{new_product-Decides, request-Decides}
use Rattle.store_table.specs.declared.products.ProductRow.{ProductRow}
use Rattle.store_table.specs.declared.table.RecordRow.{RecordRow}
use Rattle.store_table.specs.Located.{AreRowsLocated, row_product, row_products, row_record, table_by}
use Rattle.store_table.proofs.Keeping.{Keeps, keeps_more, keeps_self, located_still, product_row_still, products_still, records_still}

undecided : {P : Type 0} (b : Bool) → Decides b P → (¬ P) → b ≡ false
undecided true d never = absurd (never (d.0 refl))
undecided false d never = refl

pub took_request : (table : RecordTable) (draft : RequestDraft) → IsRequest table draft → with_request table draft ≡ with_request_payload table (OfRequest draft)
unfolding with_request_payload
took_request table draft is = rw ((request-Decides table draft).1 is) refl

pub took_no_request : (table : RecordTable) (draft : RequestDraft) → (¬ IsRequest table draft) → table ≡ with_request_payload table (OfRequest draft)
unfolding with_request_payload
took_no_request table draft never = rw (undecided (is_request table draft) (request-Decides table draft) never) refl

pub took_product : (table : RecordTable) (draft : ProductDraft) → IsNewProduct table draft → with_product table draft ≡ with_request_payload table (OfProduct draft)
unfolding with_request_payload
took_product table draft is = rw ((new_product-Decides table draft).1 is) refl

pub took_no_product : (table : RecordTable) (draft : ProductDraft) → (¬ IsNewProduct table draft) → table ≡ with_request_payload table (OfProduct draft)
unfolding with_request_payload
took_no_product table draft never = rw (undecided (is_new_product table draft) (new_product-Decides table draft) never) refl

pub took_payload : (table : RecordTable) (bytes : List ℕ) (payload : RequestPayload) → request_payload_in bytes ≡ Some payload → with_request_payload table payload ≡ after_request_payload table bytes
unfolding after_request_payload
took_payload table bytes payload e = ap (λ (r : Option RequestPayload). option_map_or (with_request_payload table) r table) (sym e)

pub took_nothing : (table : RecordTable) (bytes : List ℕ) → request_payload_in bytes ≡ None → table ≡ after_request_payload table bytes
unfolding after_request_payload
took_nothing table bytes e = ap (λ (r : Option RequestPayload). option_map_or (with_request_payload table) r table) (sym e)

-- names that are numbered keep their numbers
pub keeps_numbered : (name : FileName) (number : ℕ) (old new : List FileName) → IsNumbered name number old new → Keeps old new
keeps_numbered name number old new is = elim is.grown [
  | inl same ↦ keeps_more old [] new (same ∙ sym (append-nil old))
  | inr more ↦ keeps_more old (name ∷ []) new more
]

module _ (payloads : List (List ℕ)) (names names' : List FileName) (texts : List (List ℕ)) (products : List ProductRow) (rows : List RecordRow) (n : Keeps names names') (are : AreRowsLocated payloads names texts products rows) (other : RecordRow) where
  pub names_located : AreRowsLocated payloads names' texts products rows
  names_located =
      located_still payloads payloads names names' texts texts (keeps_self payloads) n (keeps_self texts) products products rows (keeps_self products) are
      (λ k d l. product_row_still payloads payloads names names' texts texts (keeps_self payloads) n (keeps_self texts) (get_or products k d) (are.products_are k d l))

  pub names_same : table_by payloads names' texts products rows ≡ table_by payloads names texts products rows
  names_same =
      ap (λ (ps : List BuiltFile). record { texts = texts; products = ps; records = map (row_record payloads names' texts ps) rows }) (products_still names names' texts texts products n (keeps_self texts) are.products_are)
      ∙ ap (λ (rs : List RequestRecord). record { texts = texts; products = row_products names texts products; records = rs })
      (records_still payloads payloads names names' texts texts (keeps_self payloads) n (keeps_self texts) products (row_products names texts products) (row_products names texts products) rows other (keeps_self (row_products names texts products)) (length-map products (row_product names texts)) are.rows_are)

-- one payload more
pub table_more : (payloads : List (List ℕ)) (payload : List ℕ) → record_table_of (payloads ++ payload ∷ []) ≡ after_request_payload (record_table_of payloads) payload
unfolding record_table_of
table_more payloads payload = fold_push after_request_payload bare_table payloads payload

pub table_none : record_table_of [] ≡ bare_table
unfolding record_table_of
table_none = refl
