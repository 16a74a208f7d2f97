-- The artefacts of the records that payloads stand for are within the size limit.
use Rattle.std.proofs.Common.{◌≡◌, ℕ, ◌≤◌, Bool, true, false, List, [], ◌∷◌, length, Option, Some, None, refl, sym, subst, arith}
use Rattle.std.specs.Prelude.{All, IfSome, if◌then◌else◌}
use Rattle.std.specs.List.{fold}
use Rattle.std.specs.Option.{option_map, option_map_or, option_or}
use Rattle.std.proofs.lemmas.List.Elements.{All-push, All-tail}
use Rattle.std.proofs.lemmas.Option.{same_Some}
use Rattle.base.specs.declared.file.FileName.{FileName}
use Rattle.base.specs.declared.limits.TheConstants.{ARTEFACT_LIMIT}
use Rattle.store_codec.specs.Forms.{RequestPayload, request_payload_in}
use Rattle.store_codec.specs.Forms.RequestPayload.{OfProduct, OfRequest}
use Rattle.outside.specs.Records.{Record as RequestRecord, is_of as asks_for, latest as latest_request}
use Rattle.store_codec.specs.RecordTables.{RecordTable, after_request_payload, bare_table, drafted_record, is_new_product, is_request, record_table_of, requests_among, with_product, with_request, with_request_payload}
use Rattle.store_codec.proofs.Deciding.{request-Decides}
use Rattle.store.specs.Held.{latest_held}

abbrev IsSmall : RequestRecord → Type 0
IsSmall kept = length kept.artefact ≤ ARTEFACT_LIMIT

abbrev AreSmall : RecordTable → Type 0
AreSmall table = All IsSmall table.records

by_test : (test : Bool) (x y : RecordTable) → (test ≡ true → AreSmall x) → AreSmall y → AreSmall (if test then x else y)
by_test true x y one two = one refl
by_test false x y one two = two

small_payload : (table : RecordTable) (payload : RequestPayload) → AreSmall table → AreSmall (with_request_payload table payload)
unfolding with_request_payload
small_payload table (OfProduct draft) small = by_test (is_new_product table draft) (with_product table draft) table (λ e. small) small
small_payload table (OfRequest draft) small = by_test (is_request table draft) (with_request table draft) table (λ e. All-push IsSmall table.records (drafted_record table draft) small ((request-Decides table draft).0 e).small) small

small_found : (table : RecordTable) (found : Option RequestPayload) → AreSmall table → AreSmall (option_map_or (with_request_payload table) found table)
small_found table None small = small
small_found table (Some payload) small = small_payload table payload small

small_after : (table : RecordTable) (bytes : List ℕ) → AreSmall table → AreSmall (after_request_payload table bytes)
unfolding after_request_payload
small_after table bytes small = small_found table (request_payload_in bytes) small

small_from : (table : RecordTable) (payloads : List (List ℕ)) → AreSmall table → AreSmall (fold after_request_payload table payloads)
small_from table [] small = small
small_from table (payload ∷ payloads) small = small_from (after_request_payload table payload) payloads (small_after table payload small)

small_in_all : (payloads : List (List ℕ)) → AreSmall (record_table_of payloads)
unfolding record_table_of
small_in_all payloads = small_from bare_table payloads (λ k d l. absurd (omega arith))

either_small : (one other : Option RequestRecord) → IfSome one IsSmall → IfSome other IsSmall → IfSome (option_or one other) IsSmall
either_small None other small more = more
either_small (Some kept) other small more = small

if_small : (test : Bool) (kept : RequestRecord) → IsSmall kept → IfSome (if test then Some kept else None) IsSmall
if_small true kept small = small
if_small false kept small = tt

latest_small : (name : FileName) (records : List RequestRecord) → All IsSmall records → IfSome (latest_request name records) IsSmall
unfolding latest_request
latest_small name [] small = tt
latest_small name (first ∷ rest) small = either_small (latest_request name rest) (if asks_for name first then Some first else None) (latest_small name rest (All-tail IsSmall first rest small)) (if_small (asks_for name first) first (small 0 first (omega arith)))

-- what is borrowed of such a record
borrowed_small : {B : Type 0} (bytes_of : B → List ℕ) (borrowed : Option B) (kept : Option RequestRecord) → option_map bytes_of borrowed ≡ option_map (λ k. k.artefact) kept → IfSome kept IsSmall → IfSome borrowed (λ b. length (bytes_of b) ≤ ARTEFACT_LIMIT)
borrowed_small bytes_of None kept same small = tt
borrowed_small bytes_of (Some b) None same small = absurd (let nothing : ⊥ = cc in nothing)
borrowed_small bytes_of (Some b) (Some kept) same small = subst (λ (bytes : List ℕ). length bytes ≤ ARTEFACT_LIMIT) (sym (same_Some (bytes_of b) kept.artefact same)) small

pub artefact_small : {B : Type 0} (payloads : List (List ℕ)) (name : FileName) (bytes_of : B → List ℕ) (borrowed : Option B) → option_map bytes_of borrowed ≡ option_map (λ k. k.artefact) (latest_held payloads name) → IfSome borrowed (λ b. length (bytes_of b) ≤ ARTEFACT_LIMIT)
artefact_small payloads name bytes_of borrowed same = borrowed_small bytes_of borrowed (latest_held payloads name) same (latest_small name (requests_among payloads) (small_in_all payloads))
