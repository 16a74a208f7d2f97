use Rattle.std.proofs.Common.{◌≡◌, ◌≢◌, ℕ, List, [], ◌∷◌, ◌++◌, length, Some, true≢false, sym, ap, ◌∙◌, arith, length-append}
use Rattle.std.proofs.lemmas.List.{get_or_at, length-map}
use Rattle.std.proofs.lemmas.Option.{slice_get-get_or}
use Rattle.std.proofs.lemmas.Slice.Eq.{bytes_eq-Decides}
use Rattle.store_table.specs.Located.{located_text, located_texts}
use Rattle.store.proofs.Asked.{index_after}
use Rattle.store.proofs.asking.find_after_text.Goals as goal

pub returns-then-eq : goal.returns-then-eq
returns-then-eq c =
    let texts : List (List ℕ) = located_texts c.args.held.now.segments c.args.texts.now in
    let new : List ℕ = c.args.new.now in
    let same : c.args.new.now ≡ c.args.text.now = (bytes_eq-Decides c.args.new.now c.args.text.now).0 (sym c.if-eq.ensures) in
    let size : c.len.result ≡ length texts = omega (arith, c.len.ensures, length-map c.args.texts.now.indices.items (located_text c.args.held.now.segments)) in
    slice_get-get_or (texts ++ new ∷ []) c.len.result [] (omega (arith, size, length-append texts (new ∷ []))) ∙ ap (λ (t : List ℕ). Some t) (get_or_at texts new [] [] c.len.result (sym size) ∙ same)

pub returns : goal.returns
returns c =
    let texts : List (List ℕ) = located_texts c.args.held.now.segments c.args.texts.now in
    let other : c.args.new.now ≢ c.args.text.now = λ same. true≢false (sym ((bytes_eq-Decides c.args.new.now c.args.text.now).1 same) ∙ sym c.eq.ensures ∙ c.if-eq.false) in
    index_after texts c.args.new.now c.args.text.now c.find_text.result other c.find_text.ensures
