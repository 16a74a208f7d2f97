-- The examples of "The journal of payloads", by computation.
use Rattle.std.proofs.Common.{refl}
use Rattle.base.specs.Bytes.{text_bytes}
use Rattle.base_bytes.specs.Reading.{text_at}
use Rattle.store_journal.specs.Payloads.{block, counting, generation_of, header, is_live, payload_at, payloads, payloads_in, payloads_upto, side_bytes}
use Rattle.tests_examples.specs.JournalSides.{ImagePayloads, SpelledSides}

pub spelled_sides : SpelledSides
unfolding text_bytes text_at block counting generation_of header is_live payload_at payloads payloads_in payloads_upto side_bytes
spelled_sides = record { empty = refl; ab = refl; count = refl }

pub image_payloads : ImagePayloads
unfolding text_at counting generation_of is_live payload_at payloads payloads_in payloads_upto
image_payloads = record { none = refl; no_payloads = refl; of_a = refl; of_b = refl; higher = refl; other = refl }
