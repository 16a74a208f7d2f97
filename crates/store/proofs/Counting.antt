-- The bytes of payloads, with their gates and lengths.
use Rattle.std.proofs.Common.{◌≡◌, ℕ, ◌+◌, ◌-◌, ◌*◌, ◌^◌, min, List, [], ◌∷◌, ◌++◌, length, map, refl, ap, ◌∙◌, arith, length-append}
use Rattle.std.specs.Int.{w64, to_le_bytes}
use Rattle.std.specs.List.{flat_map}
use Rattle.std.proofs.lemmas.Grind.{flat_map-append}
use Rattle.std.proofs.lemmas.List.{append-nil, map_push}
use Rattle.base.specs.Bytes.{number_bytes}
use Rattle.base.specs.Jobs.{name_bytes}
use Rattle.store_journal.specs.Payloads.{block}
use Rattle.store_codec.specs.Forms.{ProductDraft, RequestDraft, RequestPayload, command_bytes, product_draft_bytes, product_numbers_bytes, request_draft_bytes, request_payload_bytes, text_ref_bytes}
use Rattle.store_codec.specs.Forms.RequestPayload.{OfProduct, OfRequest}
use Rattle.store_codec.proofs.Sized.{length-text}
use Rattle.store.specs.Plans.{blocks_length}

length-block : (payload : List ℕ) → length (block payload) ≡ length payload + 5
unfolding block
length-block payload = omega (arith, length-text payload)

-- one payload more
pub blocks_more : (payloads : List RequestPayload) (payload : RequestPayload) → blocks_length (payloads ++ payload ∷ []) ≡ blocks_length payloads + length (block (request_payload_bytes payload))
blocks_more payloads payload =
    let bytes : List (List ℕ) = map request_payload_bytes payloads in
    let one : List ℕ = request_payload_bytes payload in
    let last : flat_map block (one ∷ []) ≡ block one = append-nil (block one) in
    ap (λ (bs : List (List ℕ)). length (flat_map block bs)) (map_push request_payload_bytes payloads payload)
    ∙ ap length (flat_map-append block bytes (one ∷ []) ∙ ap (λ (b : List ℕ). flat_map block bytes ++ b) last)
    ∙ length-append (flat_map block bytes) (block one)

-- counting on
pub counted_more : (old size sum now next : ℕ) → old ≡ min (2 ^ 64 - 1) sum → next ≡ sum + size → now ≡ min (2 ^ 64 - 1) (old + size) → now ≡ min (2 ^ 64 - 1) next
counted_more old size sum now next e f g = omega arith

length-long : (n : ℕ) → length (to_le_bytes w64 n) ≡ 8
length-long n = refl

length-short : (n : ℕ) → length (number_bytes n) ≡ 4
length-short n = refl

numbers_length : (numbers : List ℕ) → length (flat_map (to_le_bytes w64) numbers) ≡ 8 * length numbers
numbers_length [] = refl
numbers_length (number ∷ numbers) = omega (arith, length-append (to_le_bytes w64 number) (flat_map (to_le_bytes w64) numbers), length-long number, numbers_length numbers)

pub length-product : (draft : ProductDraft) → length (block (request_payload_bytes (OfProduct draft))) ≡ 6 + length (name_bytes draft.name) + length (text_ref_bytes draft.artefact)
unfolding request_payload_bytes product_draft_bytes
length-product draft = omega (arith, length-block (request_payload_bytes (OfProduct draft)), length-append (name_bytes draft.name) (text_ref_bytes draft.artefact))

pub length-request : (draft : RequestDraft) → length (block (request_payload_bytes (OfRequest draft))) ≡ 10 + length (name_bytes draft.name) + length (command_bytes draft.command) + (length (text_ref_bytes draft.source) + length (text_ref_bytes draft.artefact)) + 8 * length draft.deps
unfolding request_payload_bytes request_draft_bytes product_numbers_bytes
length-request draft =
    let numbers : List ℕ = product_numbers_bytes draft.deps in
    let artefact : List ℕ = text_ref_bytes draft.artefact in
    omega (
      arith,
      length-block (request_payload_bytes (OfRequest draft)),
      length-append (name_bytes draft.name) (command_bytes draft.command ++ (text_ref_bytes draft.source ++ (numbers ++ artefact))),
      length-append (command_bytes draft.command) (text_ref_bytes draft.source ++ (numbers ++ artefact)),
      length-append (text_ref_bytes draft.source) (numbers ++ artefact),
      length-append numbers artefact,
      length-append (number_bytes (length draft.deps)) (flat_map (to_le_bytes w64) draft.deps),
      length-short (length draft.deps),
      numbers_length draft.deps,
    )
