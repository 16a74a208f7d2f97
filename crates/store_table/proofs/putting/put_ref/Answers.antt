use Rattle.std.proofs.Common.{◌≡◌, true, subst}
use Rattle.base_bytes.specs.Ranges.{ranged}
use Rattle.base_bytes.specs.TextRefs.{ref_in_range, is_text_ref}
use Rattle.store_table.specs.Located.{nth_payload, located_texts}
use Rattle.base_bytes.specs.declared.text_refs.TextRange.{TextRange}
use Rattle.store_table.proofs.Finding.{is_new}
use Rattle.store_table.proofs.putting.put_ref.Goals as goal

pub put_text-requires-clause-new : goal.put_text-requires-clause-new
put_text-requires-clause-new c =
    is_new (located_texts c.args.held.now.segments c.args.texts.now) (ranged (nth_payload c.args.held.now.segments c.args.at) c.in-Full.range)
    (subst (λ (s : TextRange). is_text_ref (located_texts c.args.held.now.segments c.args.texts.now) (ref_in_range (nth_payload c.args.held.now.segments c.args.at) s) ≡ true) c.in-Full.is c.requires.source)
