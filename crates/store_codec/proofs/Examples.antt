-- What two payloads stand for, worked out by hand: a.vhd with the text x and the artefact y, and then b.vhd over it, of the
-- same text and with the artefact z.
use Rattle.std.proofs.Common.{◌≡◌, ℕ, List, [], ◌∷◌, refl}
use Rattle.base.specs.declared.graph.BuiltFile.{BuiltFile}
use Rattle.base.specs.Bytes.{text_bytes}
use Rattle.base.specs.Jobs.{name_bytes}
use Rattle.base_bytes.specs.Reading.{counted_at, many_at, text_at}
use Rattle.base_bytes.specs.Names.{name_at}
use Rattle.outside.specs.Records.{Record as RequestRecord, latest_alone as latest_requests}
use Rattle.store_codec.specs.Compaction.{compacted_from, compact_own, compact_product, compact_request, compacted_requests}
use Rattle.store_codec.specs.Forms.{command_bytes, product_draft_bytes, product_in, product_numbers_bytes, request_draft_bytes, request_in, request_payload_by, request_payload_bytes, request_payload_in, text_ref_bytes}
use Rattle.base_bytes.specs.TextRefs.{ref_by_number_at, ref_in_full_at, text_ref_at, text_ref_by}
use Rattle.base_bytes.specs.TextRefs.TextRef.{ByNumber, InFull}
use Rattle.store_codec.specs.Forms.RequestPayload.{OfRequest}
use Rattle.store_codec.specs.RecordTables.{after_request_payload, are_apart, is_new_product, is_request, record_table_of, with_request_payload}

-- lib, the path, and cc
abbrev head : ℕ → List ℕ
head letter = 3 ∷ 0 ∷ 0 ∷ 0 ∷ 108 ∷ 105 ∷ 98 ∷ 5 ∷ 0 ∷ 0 ∷ 0 ∷ letter ∷ 46 ∷ 118 ∷ 104 ∷ 100 ∷ 1 ∷ 0 ∷ 0 ∷ 0 ∷ 2 ∷ 0 ∷ 0 ∷ 0 ∷ 99 ∷ 99 ∷ []

abbrev append : List ℕ → List ℕ → List ℕ
append [] ys = ys
append (x ∷ xs) ys = x ∷ append xs ys

-- 01 03000000 6c6962 05000000 612e766864 01000000 02000000 6363 01 01000000 78 00000000 01 01000000 79
abbrev first : List ℕ
first = 1 ∷ append (head 97) (1 ∷ 1 ∷ 0 ∷ 0 ∷ 0 ∷ 120 ∷ 0 ∷ 0 ∷ 0 ∷ 0 ∷ 1 ∷ 1 ∷ 0 ∷ 0 ∷ 0 ∷ 121 ∷ [])

-- 01 03000000 6c6962 05000000 622e766864 01000000 02000000 6363 00 0000000000000000 01000000 0000000000000000 01 01000000 7a
abbrev second : List ℕ
second = 1 ∷ append (head 98) (0 ∷ 0 ∷ 0 ∷ 0 ∷ 0 ∷ 0 ∷ 0 ∷ 0 ∷ 0 ∷ 1 ∷ 0 ∷ 0 ∷ 0 ∷ 0 ∷ 0 ∷ 0 ∷ 0 ∷ 0 ∷ 0 ∷ 0 ∷ 0 ∷ 1 ∷ 1 ∷ 0 ∷ 0 ∷ 0 ∷ 122 ∷ [])

-- the product of a.vhd, with the artefact y, alone
abbrev product : List ℕ
product = 0 ∷ 3 ∷ 0 ∷ 0 ∷ 0 ∷ 108 ∷ 105 ∷ 98 ∷ 5 ∷ 0 ∷ 0 ∷ 0 ∷ 97 ∷ 46 ∷ 118 ∷ 104 ∷ 100 ∷ 1 ∷ 1 ∷ 0 ∷ 0 ∷ 0 ∷ 121 ∷ []

-- b.vhd over it, with the text x, which is new, and the artefact y, which is there
abbrev over_product : List ℕ
over_product = 1 ∷ append (head 98) (1 ∷ 1 ∷ 0 ∷ 0 ∷ 0 ∷ 120 ∷ 1 ∷ 0 ∷ 0 ∷ 0 ∷ 0 ∷ 0 ∷ 0 ∷ 0 ∷ 0 ∷ 0 ∷ 0 ∷ 0 ∷ 0 ∷ 0 ∷ 0 ∷ 0 ∷ 0 ∷ 0 ∷ 0 ∷ 0 ∷ 0 ∷ [])

abbrev built : ℕ → ℕ → BuiltFile
built letter artefact = record { name = record { library = 108 ∷ 105 ∷ 98 ∷ []; path = letter ∷ 46 ∷ 118 ∷ 104 ∷ 100 ∷ [] }; artefact = artefact ∷ [] }

abbrev asked : ℕ → List BuiltFile → ℕ → RequestRecord
asked letter below artefact = record { asked = record { command = (99 ∷ 99 ∷ []) ∷ []; name = (built letter artefact).name; text = 120 ∷ []; below = below }; artefact = artefact ∷ [] }

pub both : (record_table_of (first ∷ second ∷ [])).records ≡ asked 97 [] 121 ∷ asked 98 (built 97 121 ∷ []) 122 ∷ []
unfolding record_table_of after_request_payload with_request_payload is_request is_new_product are_apart request_payload_in request_payload_by product_in request_in text_ref_at text_ref_by ref_by_number_at ref_in_full_at name_at text_at counted_at many_at
both = refl

-- a payload that repeats its new texts stands for no record
pub repeated : (record_table_of (first ∷ first ∷ [])).records ≡ asked 97 [] 121 ∷ []
unfolding record_table_of after_request_payload with_request_payload is_request is_new_product are_apart request_payload_in request_payload_by product_in request_in text_ref_at text_ref_by ref_by_number_at ref_in_full_at name_at text_at counted_at many_at
repeated = refl

-- a product alone stands for no record, and one above it may have its artefact by its number
pub alone : (record_table_of (product ∷ product ∷ over_product ∷ [])).records ≡ asked 98 (built 97 121 ∷ []) 121 ∷ []
unfolding record_table_of after_request_payload with_request_payload is_request is_new_product are_apart request_payload_in request_payload_by product_in request_in text_ref_at text_ref_by ref_by_number_at ref_in_full_at name_at text_at counted_at many_at
alone = refl

-- a.vhd over itself
abbrev own_product : List ℕ
own_product = 1 ∷ append (head 97) (1 ∷ 1 ∷ 0 ∷ 0 ∷ 0 ∷ 120 ∷ 1 ∷ 0 ∷ 0 ∷ 0 ∷ 0 ∷ 0 ∷ 0 ∷ 0 ∷ 0 ∷ 0 ∷ 0 ∷ 0 ∷ 0 ∷ 0 ∷ 0 ∷ 0 ∷ 0 ∷ 0 ∷ 0 ∷ 0 ∷ 0 ∷ [])

-- a file isn't below itself
pub below_itself : (record_table_of (product ∷ own_product ∷ [])).records ≡ []
unfolding record_table_of after_request_payload with_request_payload is_request is_new_product are_apart request_payload_in request_payload_by product_in request_in text_ref_at text_ref_by ref_by_number_at ref_in_full_at name_at text_at counted_at many_at
below_itself = refl

-- the second payload is spelled so
pub spelled : request_payload_bytes (OfRequest (record { name = (built 98 0).name; command = (99 ∷ 99 ∷ []) ∷ []; source = ByNumber 0; deps = 0 ∷ []; artefact = InFull (122 ∷ []) })) ≡ second
unfolding request_payload_bytes request_draft_bytes command_bytes text_ref_bytes product_numbers_bytes name_bytes text_bytes
spelled = refl

-- compaction of two records that are the latest gives the two payloads
pub compacted_both : compacted_requests (asked 97 [] 121 ∷ asked 98 (built 97 121 ∷ []) 122 ∷ []) ≡ first ∷ second ∷ []
unfolding compacted_requests compacted_from compact_request compact_own compact_product latest_requests request_payload_bytes request_draft_bytes command_bytes text_ref_bytes product_numbers_bytes name_bytes text_bytes
compacted_both = refl

-- a.vhd with the text w and the artefact v
abbrev later : RequestRecord
later = record { asked = record { command = (99 ∷ 99 ∷ []) ∷ []; name = (built 97 118).name; text = 119 ∷ []; below = [] }; artefact = 118 ∷ [] }

-- a.vhd with the new text w and the new artefact v
abbrev later_bytes : List ℕ
later_bytes = 1 ∷ append (head 97) (1 ∷ 1 ∷ 0 ∷ 0 ∷ 0 ∷ 119 ∷ 0 ∷ 0 ∷ 0 ∷ 0 ∷ 1 ∷ 1 ∷ 0 ∷ 0 ∷ 0 ∷ 118 ∷ [])

-- b.vhd over product 0, with the new text x and the new artefact z
abbrev over_earlier : List ℕ
over_earlier = 1 ∷ append (head 98) (1 ∷ 1 ∷ 0 ∷ 0 ∷ 0 ∷ 120 ∷ 1 ∷ 0 ∷ 0 ∷ 0 ∷ 0 ∷ 0 ∷ 0 ∷ 0 ∷ 0 ∷ 0 ∷ 0 ∷ 0 ∷ 1 ∷ 1 ∷ 0 ∷ 0 ∷ 0 ∷ 122 ∷ [])

-- where the first file was recorded anew, the product that the second one stands over is written alone, before it
pub compacted_later : compacted_requests (asked 97 [] 121 ∷ asked 98 (built 97 121 ∷ []) 122 ∷ later ∷ []) ≡ product ∷ over_earlier ∷ later_bytes ∷ []
unfolding compacted_requests compacted_from compact_request compact_own compact_product latest_requests request_payload_bytes request_draft_bytes product_draft_bytes command_bytes text_ref_bytes product_numbers_bytes name_bytes text_bytes
compacted_later = refl
