-- Payloads as ranges of their bytes.
use Rattle.std.specs.Prelude.{ℕ, List}
use Rattle.store_codec.specs.declared.reading.ProductRanges.{ProductRanges}
use Rattle.store_codec.specs.declared.reading.RequestRanges.{RequestRanges}
use Rattle.store_codec.specs.declared.reading.PayloadRanges.{PayloadRanges}
use Rattle.store_codec.specs.declared.reading.PayloadRanges.TheVariants as ranges
use Rattle.base_bytes.specs.Ranges.{counted_numbers, counted_words, ranged}
use Rattle.base_bytes.specs.TextRefs.{ref_in_range}
use Rattle.store_codec.specs.Forms.{ProductDraft, RequestDraft, RequestPayload}
use Rattle.store_codec.specs.Forms.RequestPayload.{OfProduct, OfRequest}

-- the product whose parts are at these ranges of bytes
abbrev pub product_in_ranges : List ℕ → ProductRanges → ProductDraft
product_in_ranges bytes draft = record { name = record { library = ranged bytes draft.library; path = ranged bytes draft.path }; artefact = ref_in_range bytes draft.artefact }

-- the record whose parts are at these ranges of bytes
abbrev pub request_in_ranges : List ℕ → RequestRanges → RequestDraft
request_in_ranges bytes draft = record { name = record { library = ranged bytes draft.library; path = ranged bytes draft.path }; command = counted_words bytes draft.words; source = ref_in_range bytes draft.source; deps = counted_numbers bytes draft.deps; artefact = ref_in_range bytes draft.artefact }

-- the payload whose parts are at these ranges of bytes
abbrev pub payload_in_ranges : List ℕ → PayloadRanges → RequestPayload
payload_in_ranges bytes (ranges.OfProduct draft) = OfProduct (product_in_ranges bytes draft)
payload_in_ranges bytes (ranges.OfRequest draft) = OfRequest (request_in_ranges bytes draft)
