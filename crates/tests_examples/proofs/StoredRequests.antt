-- The examples of "Texts and products stored once", by computation.
use Rattle.std.proofs.Common.{refl}
use Rattle.base.specs.Bytes.{text_bytes}
use Rattle.base.specs.Jobs.{name_bytes}
use Rattle.outside.specs.Records.{latest_alone}
use Rattle.base_bytes.specs.Names.{name_at}
use Rattle.base_bytes.specs.Reading.{counted_at, many_at, text_at}
use Rattle.store_journal.specs.Payloads.{block}
use Rattle.store_codec.specs.Compaction.{compacted_from, compact_own, compact_product, compact_request, compacted_requests}
use Rattle.store_codec.specs.Forms.{command_bytes, product_draft_bytes, product_in, product_numbers_bytes, request_draft_bytes, request_in, request_payload_by, request_payload_bytes, request_payload_in, text_ref_bytes}
use Rattle.base_bytes.specs.TextRefs.{ref_by_number_at, ref_in_full_at, text_ref_at, text_ref_by}
use Rattle.store_codec.specs.RecordTables.{after_request_payload, are_apart, is_new_product, is_request, record_table_of, with_request_payload}
use Rattle.tests_examples.specs.StoredRequests.{CompactedRequests, ShelvedRequests}

pub shelved_requests : ShelvedRequests
unfolding name_at counted_at many_at text_at product_in ref_by_number_at ref_in_full_at request_in request_payload_by request_payload_in text_ref_at text_ref_by after_request_payload are_apart is_new_product is_request record_table_of with_request_payload
shelved_requests = record { texts = refl; products = refl; both = refl; repeated = refl; first_missing = refl; product_alone = refl; over_alone = refl; adds_itself = refl; there_already = refl; below_itself = refl }

pub requests_compacted : CompactedRequests
unfolding text_bytes name_bytes latest_alone name_at counted_at many_at text_at block compacted_from compact_own compact_product compact_request compacted_requests command_bytes product_draft_bytes product_in product_numbers_bytes ref_by_number_at ref_in_full_at request_draft_bytes request_in request_payload_by request_payload_bytes request_payload_in text_ref_at text_ref_by text_ref_bytes after_request_payload are_apart is_new_product is_request record_table_of with_request_payload
requests_compacted = record { all = refl; payloads = refl; kept = refl; count = refl }
