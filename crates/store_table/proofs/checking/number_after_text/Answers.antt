use Rattle.std.proofs.Common.{◌≡◌, ◌+◌, ℕ, List, [], ◌∷◌, ◌++◌, length, subst, arith, length-append}
use Rattle.std.specs.Prelude.{Contains, SomeIff}
use Rattle.std.proofs.lemmas.List.{length-map}
use Rattle.base_bytes.specs.Ranges.{ranged}
use Rattle.store_table.specs.Located.{located_text, located_texts}
use Rattle.store_table.proofs.Finding.{new_ref}
use Rattle.store_table.proofs.checking.number_after_text.Goals as goal

pub returns-in-Full : goal.returns-in-Full
returns-in-Full c =
    let texts : List (List ℕ) = located_texts c.args.held.now.segments c.args.texts.now ++ c.args.new.now ∷ [] in
    let size : length c.args.texts.now.indices.items + 1 ≡ length texts = omega (arith, length-append (located_texts c.args.held.now.segments c.args.texts.now) (c.args.new.now ∷ []), length-map c.args.texts.now.indices.items (located_text c.args.held.now.segments)) in
    rw c.in-Full.is
    (new_ref texts (ranged c.args.bytes.now c.in-Full.range) c.number_of_second.result (length c.args.texts.now.indices.items + 1) size
    (subst (λ (t : List ℕ). SomeIff c.number_of_second.result (¬ Contains texts t) (length c.args.texts.now.indices.items + 1)) c.bytes_in.ensures c.number_of_second.ensures))
