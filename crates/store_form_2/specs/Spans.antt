-- Payloads as spans of their bytes.
use Rattle.std.specs.Prelude.{ℕ, List}
use Rattle.base_bytes.specs.Ranges.{counted_numbers, counted_words, ranged}
use Rattle.base_bytes.specs.TextRefs.{ref_in_range}
use Rattle.store_form_2.specs.declared.reading.DraftSpans.{DraftSpans}
use Rattle.store_form_2.specs.declared.reading.PayloadSpans.{PayloadSpans}
use Rattle.store_form_2.specs.declared.reading.PayloadSpans.TheVariants as spans
use Rattle.store_form_2.specs.Forms.{Draft, NodePayload}
use Rattle.store_form_2.specs.Forms.NodePayload.{OfNode, OfDraft, DraftAlone}

-- the new node whose parts are at these spans of bytes
abbrev pub draft_in : List ℕ → DraftSpans → Draft
draft_in bytes draft = record { name = record { library = ranged bytes draft.library; path = ranged bytes draft.path }; command = counted_words bytes draft.words; source = ref_in_range bytes draft.source; deps = counted_numbers bytes draft.deps }

-- the payload whose parts are at these spans of bytes
abbrev pub payload_in_spans : List ℕ → PayloadSpans → NodePayload
payload_in_spans bytes (spans.OfNode number artefact) = OfNode number (ranged bytes artefact)
payload_in_spans bytes (spans.OfDraft draft artefact) = OfDraft (draft_in bytes draft) (ranged bytes artefact)
payload_in_spans bytes (spans.DraftAlone draft) = DraftAlone (draft_in bytes draft)
