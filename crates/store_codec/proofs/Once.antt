-- Texts and products stay numbered once where a payload is taken up, and what a spelled draft adds.
use Rattle.std.proofs.Common.{◌≡◌, ◌≢◌, ℕ, Bool, true, false, not, List, [], ◌∷◌, ◌++◌, get_or, None, Option, Some, refl, sym, ◌∙◌, true≢false, arith}
use Rattle.std.specs.Prelude.{AllPairs, if◌then◌else◌}
use Rattle.std.specs.Bool.{Decides}
use Rattle.std.specs.List.{fold, list_any}
use Rattle.std.specs.Option.{option_map_or}
use Rattle.std.specs.Str.{bytes_eq}
use Rattle.std.proofs.lemmas.List.Folds.{list_any_at}
use Rattle.std.proofs.lemmas.List.Quantifiers.{all_pairs_push}
use Rattle.std.proofs.lemmas.Slice.Eq.{bytes_eq-Decides}
use Rattle.base.specs.declared.graph.BuiltFile.{BuiltFile}
use Rattle.store_codec.specs.Forms.{IsSpellable, ProductDraft, RequestDraft, RequestPayload, request_payload_bytes, request_payload_in}
use Rattle.base_bytes.specs.TextRefs.{TextRef, is_text_ref, with_text}
use Rattle.base_bytes.specs.TextRefs.TextRef.{ByNumber, InFull}
use Rattle.store_codec.specs.Forms.RequestPayload.{OfProduct, OfRequest}
use Rattle.store_codec.specs.RecordTables.{AreNumberedOnce, IsNewProduct, IsRequest, RecordTable, after_request_payload, bare_table, drafted_product, is_new_product, is_request, is_same_built, record_table_of, with_built, with_product, with_request, with_request_payload}
use Rattle.store_codec.proofs.Deciding.{new_product-Decides, request-Decides, same_built-Decides}
use Rattle.store_codec.proofs.Spelling.{payload_again}

abbrev AreOnce : {X : Type 0} → List X → Type 0
AreOnce {X} xs = AllPairs (λ (a b : X). a ≢ b) xs

-- what no item is the same as can be added
once_more : {X : Type 0} (test : X → X → Bool) → ((a b : X) → Decides (test a b) (a ≡ b)) → (xs : List X) (new : X) → AreOnce xs → list_any (test new) xs ≡ false → AreOnce (xs ++ new ∷ [])
once_more {X} test decides xs new once none =
    all_pairs_push (λ (a b : X). a ≢ b) xs new once (λ k d l same. true≢false (sym (list_any_at (test new) xs k d l ((decides new (get_or xs k d)).1 (sym same))) ∙ none))

not_true : (b : Bool) → not b ≡ true → b ≡ false
not_true true e = absurd cc
not_true false e = refl

text_once : (texts : List (List ℕ)) (source : TextRef) → AreOnce texts → is_text_ref texts source ≡ true → AreOnce (with_text texts source)
text_once texts (ByNumber number) once e = once
text_once texts (InFull text) once e = once_more bytes_eq bytes_eq-Decides texts text once (not_true _ e)

built_once : (products : List BuiltFile) (product : BuiltFile) → AreOnce products → AreOnce (with_built products product)
built_once products product once = by (list_any (is_same_built product) products) refl
  where
    by : (b : Bool) → list_any (is_same_built product) products ≡ b → AreOnce (if b then products else products ++ product ∷ [])
    by true e = once
    by false e = once_more is_same_built same_built-Decides products product once e

pub once_with_request : (table : RecordTable) (draft : RequestDraft) → AreNumberedOnce table → IsRequest table draft → AreNumberedOnce (with_request table draft)
once_with_request table draft once is = record {
  texts = text_once (with_text table.texts draft.source) draft.artefact (text_once table.texts draft.source once.texts is.source) is.artefact;
  products = built_once table.products _ once.products;
}

pub once_with_product : (table : RecordTable) (draft : ProductDraft) → AreNumberedOnce table → IsNewProduct table draft → AreNumberedOnce (with_product table draft)
once_with_product table draft once is = record {
  texts = text_once table.texts draft.artefact once.texts is.artefact;
  products = once_more is_same_built same_built-Decides table.products (drafted_product table.texts draft) once.products is.new;
}

-- what drafts keep of a table holds of the table of any payloads, if it does of the bare one
module _ (P : RecordTable → Type 0) (product : (table : RecordTable) (draft : ProductDraft) → P table → IsNewProduct table draft → P (with_product table draft)) (request : (table : RecordTable) (draft : RequestDraft) → P table → IsRequest table draft → P (with_request table draft)) where
  by_test : (test : Bool) (x y : RecordTable) → (test ≡ true → P x) → P y → P (if test then x else y)
  by_test true x y one two = one refl
  by_test false x y one two = two

  by_payload : (table : RecordTable) (payload : RequestPayload) → P table → P (with_request_payload table payload)
  unfolding with_request_payload
  by_payload table (OfProduct draft) is = by_test (is_new_product table draft) (with_product table draft) table (λ e. product table draft is ((new_product-Decides table draft).0 e)) is
  by_payload table (OfRequest draft) is = by_test (is_request table draft) (with_request table draft) table (λ e. request table draft is ((request-Decides table draft).0 e)) is

  by_found : (table : RecordTable) (found : Option RequestPayload) → P table → P (option_map_or (with_request_payload table) found table)
  by_found table None is = is
  by_found table (Some payload) is = by_payload table payload is

  by_bytes : (table : RecordTable) (bytes : List ℕ) → P table → P (after_request_payload table bytes)
  unfolding after_request_payload
  by_bytes table bytes is = by_found table (request_payload_in bytes) is

  by_each : (table : RecordTable) (payloads : List (List ℕ)) → P table → P (fold after_request_payload table payloads)
  by_each table [] is = is
  by_each table (payload ∷ payloads) is = by_each (after_request_payload table payload) payloads (by_bytes table payload is)

  pub by_payloads : P bare_table → (payloads : List (List ℕ)) → P (record_table_of payloads)
  unfolding record_table_of
  by_payloads bare payloads = by_each bare_table payloads bare

pub once_in_all : (payloads : List (List ℕ)) → AreNumberedOnce (record_table_of payloads)
once_in_all = by_payloads AreNumberedOnce once_with_product once_with_request (record { texts = λ i j d a b. absurd (omega arith); products = λ i j d a b. absurd (omega arith) })

pub adds_request : (table : RecordTable) (draft : RequestDraft) → IsRequest table draft → IsSpellable (OfRequest draft) → after_request_payload table (request_payload_bytes (OfRequest draft)) ≡ with_request table draft
unfolding after_request_payload with_request_payload
adds_request table draft is spelled = rw (payload_again (OfRequest draft) spelled, (request-Decides table draft).1 is) refl

pub adds_product : (table : RecordTable) (draft : ProductDraft) → IsNewProduct table draft → IsSpellable (OfProduct draft) → after_request_payload table (request_payload_bytes (OfProduct draft)) ≡ with_product table draft
unfolding after_request_payload with_request_payload
adds_product table draft is spelled = rw (payload_again (OfProduct draft) spelled, (new_product-Decides table draft).1 is) refl
