use Rattle.std.proofs.Common.{◌≢◌, List, [], ℕ, get_or, sym, true≢false, ◌∙◌}
use Rattle.std.proofs.lemmas.Slice.Eq.{bytes_eq-Decides}
use Rattle.base_collections.specs.Splits.{AreSplit}
use Rattle.store_table.specs.Located.{located_texts}
use Rattle.store_table.proofs.Finding.{found_there, not_there}
use Rattle.store_table.proofs.texts.find_text.Goals as goal

pub returns-then-eq : goal.returns-then-eq
returns-then-eq c =
    let texts : List (List ℕ) = located_texts c.args.held.now.segments c.args.texts.now in
    let are : AreSplit texts c.args.texts.now.index.splits = record { as_many = c.requires.split.as_many; each = c.requires.split.each } in
    found_there texts c.args.texts.now.index.splits are c.args.text.now c.candidate-number.result c.candidate-number.ensures.there (sym c.text_at.ensures ∙ (bytes_eq-Decides c.text_at.result.now c.args.text.now).0 (sym c.if-eq.ensures))

pub returns-else-eq : goal.returns-else-eq
returns-else-eq c =
    let texts : List (List ℕ) = located_texts c.args.held.now.segments c.args.texts.now in
    let are : AreSplit texts c.args.texts.now.index.splits = record { as_many = c.requires.split.as_many; each = c.requires.split.each } in
    let other : get_or texts c.candidate-number.result [] ≢ c.args.text.now = λ same. true≢false (sym ((bytes_eq-Decides c.text_at.result.now c.args.text.now).1 (c.text_at.ensures ∙ same)) ∙ sym c.eq.ensures ∙ c.if-eq.false) in
    not_there texts c.args.texts.now.index.splits are c.args.text.now c.candidate-number.result c.candidate-number.ensures.is other
