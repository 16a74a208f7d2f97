use Rattle.std.proofs.Common.{◌≡◌, ◌+◌, ◌≤◌, ℕ, List, [], ◌∷◌, length, true, ap, subst, arith, length-append}
use Rattle.std.proofs.lemmas.List.{length-map}
use Rattle.base_bytes.specs.Ranges.{ranged}
use Rattle.base_bytes.specs.TextRefs.{is_text_ref, ref_in_range, with_text}
use Rattle.base_bytes.specs.declared.text_refs.TextRange.{TextRange}
use Rattle.store_table.specs.Located.{located_text, located_texts, nth_payload, text_room}
use Rattle.store_table.proofs.Finding.{is_new}
use Rattle.passes_table.proofs.putting.put_artefact.Goals as goal

pub put_text-requires-clause-room : goal.put_text-requires-clause-room
put_text-requires-clause-room c =
    let segments : List (List ℕ) = c.args.held.now.segments in
    let texts : List (List ℕ) = located_texts segments c.args.texts.now in
    let text : List ℕ = ranged (nth_payload segments c.args.at) c.in-Full.range in
    let room = subst (λ (s : TextRange). length (with_text texts (ref_in_range (nth_payload segments c.args.at) s)) ≤ length c.args.texts.now.indices.items + text_room c.args.texts.now) c.in-Full.is c.requires.room in
    omega (arith, room, length-append texts (text ∷ []), length-map c.args.texts.now.indices.items (located_text segments))

pub put_text-requires-clause-new : goal.put_text-requires-clause-new
put_text-requires-clause-new c =
    is_new (located_texts c.args.held.now.segments c.args.texts.now) (ranged (nth_payload c.args.held.now.segments c.args.at) c.in-Full.range)
    (subst (λ (s : TextRange). is_text_ref (located_texts c.args.held.now.segments c.args.texts.now) (ref_in_range (nth_payload c.args.held.now.segments c.args.at) s) ≡ true) c.in-Full.is c.requires.source)

pub returns-in-Full-clause-room : goal.returns-in-Full-clause-room
returns-in-Full-clause-room c =
    let segments : List (List ℕ) = c.args.held.now.segments in
    let texts : List (List ℕ) = located_texts segments c.args.texts.now in
    let text : List ℕ = ranged (nth_payload segments c.args.at) c.in-Full.range in
    let more : length c.put_text.new.texts.indices.items ≡ length c.args.texts.now.indices.items + 1 = omega (
      arith,
      length-map c.put_text.new.texts.indices.items (located_text segments),
      length-map c.args.texts.now.indices.items (located_text segments),
      ap length c.put_text.ensures.is,
      length-append texts (text ∷ []),
    ) in
    omega (arith, more, c.put_text.ensures.room)
