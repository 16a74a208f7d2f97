-- What compaction keeps of records: each in its order, behind the products of its dependencies that aren't there yet.
use Rattle.std.specs.Prelude.{ℕ, List, [], ◌∷◌, ◌++◌, map, if◌then◌else◌}
use Rattle.std.specs.List.{fold, list_any, position, position_or_len}
use Rattle.std.specs.Str.{bytes_eq}
use Rattle.base.specs.declared.graph.BuiltFile.{BuiltFile}
use Rattle.store_codec.specs.Forms.{RequestDraft, RequestPayload, request_payload_bytes}
use Rattle.base_bytes.specs.TextRefs.{TextRef, with_text}
use Rattle.store_codec.specs.Forms.RequestPayload.{OfProduct, OfRequest}
use Rattle.outside.specs.Records.{Record as RequestRecord, built_of_record, latest_alone as latest_requests}
use Rattle.store_codec.specs.RecordTables.{is_same_built, with_built}
use Rattle.store_codec.specs.Writing.{ref_or}

-- the texts and the products so far, in the order of their numbers, and the payloads that add them
pub record CompactedSoFar : Type 0 where
  pub texts : List (List ℕ)
  pub products : List BuiltFile
  pub payloads : List RequestPayload

-- what is carried before the first record
abbrev pub none_compacted : CompactedSoFar
none_compacted = record { texts = []; products = []; payloads = [] }

-- a text by its number, where it is there, and else as a new one
abbrev pub compacted_ref : List (List ℕ) → List ℕ → TextRef
compacted_ref texts text = ref_or (position (λ other. bytes_eq other text) texts) text

-- the texts with one that may be there already
abbrev pub with_compacted_text : List (List ℕ) → List ℕ → List (List ℕ)
with_compacted_text texts text = with_text texts (compacted_ref texts text)

-- the number of a product in a list, or the length of the list if it doesn't contain the product
abbrev pub number_of_built : List BuiltFile → BuiltFile → ℕ
number_of_built products product = position_or_len (λ other. is_same_built other product) products

-- what is carried so far, with a product that may be there already
unfoldable pub compact_product : CompactedSoFar → BuiltFile → CompactedSoFar
compact_product so_far product =
    if list_any (is_same_built product) so_far.products then so_far
    else record { texts = with_compacted_text so_far.texts product.artefact; products = so_far.products ++ product ∷ []; payloads = so_far.payloads ++ OfProduct (record { name = product.name; artefact = compacted_ref so_far.texts product.artefact }) ∷ [] }

-- a record over products that are there
abbrev pub compacted_draft : CompactedSoFar → RequestRecord → RequestDraft
compacted_draft so_far kept = record { name = kept.asked.name; command = kept.asked.command; source = compacted_ref so_far.texts kept.asked.text; deps = map (number_of_built so_far.products) kept.asked.below; artefact = compacted_ref (with_compacted_text so_far.texts kept.asked.text) kept.artefact }

-- a record after the products below it: its text, its artefact and its product, each added only where it is new, and its payload
unfoldable pub compact_own : CompactedSoFar → RequestRecord → CompactedSoFar
compact_own so_far kept = record { texts = with_compacted_text (with_compacted_text so_far.texts kept.asked.text) kept.artefact; products = with_built so_far.products (built_of_record kept); payloads = so_far.payloads ++ OfRequest (compacted_draft so_far kept) ∷ [] }

-- what is carried so far, with a record: first the products below it, in their order, and then the record itself
unfoldable pub compact_request : CompactedSoFar → RequestRecord → CompactedSoFar
compact_request so_far kept = compact_own (fold compact_product so_far kept.asked.below) kept

-- what is carried after these records, in order
unfoldable pub compacted_from : CompactedSoFar → List RequestRecord → CompactedSoFar
compacted_from so_far records = fold compact_request so_far records

-- the payloads that keep the latest of some records, and nothing else
unfoldable pub compacted_requests : List RequestRecord → List (List ℕ)
compacted_requests records = map request_payload_bytes (compacted_from none_compacted (latest_requests records)).payloads
