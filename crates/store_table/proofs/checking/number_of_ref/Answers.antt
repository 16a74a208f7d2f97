use Rattle.std.proofs.Common.{ℕ, List, length, sym, subst}
use Rattle.std.specs.Prelude.{Contains, SomeIff}
use Rattle.std.proofs.lemmas.List.{length-map}
use Rattle.base_bytes.specs.Ranges.{ranged}
use Rattle.store_table.specs.Located.{located_text, located_texts}
use Rattle.store_table.proofs.Finding.{new_ref}
use Rattle.store_table.proofs.checking.number_of_ref.Goals as goal

pub returns-in-Full : goal.returns-in-Full
returns-in-Full c =
    let texts : List (List ℕ) = located_texts c.args.held.now.segments c.args.texts.now in
    rw c.in-Full.is
    (new_ref texts (ranged c.args.bytes.now c.in-Full.range) c.new_number.result (length c.args.texts.now.indices.items) (sym (length-map c.args.texts.now.indices.items (located_text c.args.held.now.segments)))
    (subst (λ (t : List ℕ). SomeIff c.new_number.result (¬ Contains texts t) (length c.args.texts.now.indices.items)) c.bytes_in.ensures c.new_number.ensures))
