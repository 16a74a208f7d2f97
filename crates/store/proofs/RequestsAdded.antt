-- The records of payloads, with one more.
use Rattle.std.proofs.Common.{◌≡◌, ℕ, ◌+◌, List, [], ◌∷◌, ◌++◌, length, None, refl, ap, ◌∙◌, arith, length-append}
use Rattle.base.specs.declared.file.FileName.{FileName}
use Rattle.store_journal.specs.Forms.{has_form}
use Rattle.store_journal.specs.Payloads.{is_live, counting, payloads}
use Rattle.outside.specs.Records.{Record as RequestRecord, latest as latest_request}
use Rattle.store_codec.specs.RecordTables.{RecordTable, record_table_of, requests_among}
use Rattle.store.specs.Held.{HeldState, latest_held}
use Rattle.store.proofs.Adding.{adds_table, latest_push}
use Rattle.store.specs.Stored.{IsRequestReady, PreparedState, prepared_record, requests_in, with_newer}

-- a prepared record is one more at the end
pub one_more : (held : HeldState) (prepared : PreparedState) → IsRequestReady held prepared → requests_among (held.payloads ++ prepared.payload ∷ []) ≡ requests_among held.payloads ++ prepared_record held.payloads prepared ∷ []
one_more held prepared ready = ap (λ (s : RecordTable). s.records) (adds_table held.payloads held.names prepared.payload prepared.addition ready.adds)

-- the latest records of payloads with one more
pub latest_added : (payloads more : List (List ℕ)) (segment : List ℕ) (kept : RequestRecord) (name : FileName) → more ≡ payloads ++ segment ∷ [] → requests_among (payloads ++ segment ∷ []) ≡ requests_among payloads ++ kept ∷ [] → latest_held more name ≡ with_newer kept (latest_held payloads) name
latest_added payloads more segment kept name is one = ap (λ (ps : List (List ℕ)). latest_held ps name) is ∙ ap (latest_request name) one ∙ latest_push name (requests_among payloads) kept

-- no payloads have no record
pub none_among : requests_among [] ≡ []
unfolding record_table_of
none_among = refl

-- nor has an empty disk
pub none_in_empty : requests_in (record { a = []; b = [] }) ≡ []
unfolding has_form is_live counting payloads
none_in_empty = none_among

pub latest_none : (payloads : List (List ℕ)) (name : FileName) → payloads ≡ [] → latest_held payloads name ≡ None
unfolding latest_request
latest_none payloads name is = ap (λ (ps : List (List ℕ)). latest_held ps name) is ∙ ap (latest_request name) none_among

-- no list is itself with one item more
pub no_longer : (records : List RequestRecord) (kept : RequestRecord) → records ≡ records ++ kept ∷ [] → ⊥
no_longer records kept is =
    let count : length records ≡ length records + 1 = ap length is ∙ length-append records (kept ∷ []) in
    absurd (omega arith)
