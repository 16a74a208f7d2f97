use Rattle.std.proofs.Common.{◌≡◌, List, [], ℕ, get_or, sym, ap, subst, ◌∙◌}
use Rattle.base_collections.specs.Splits.{Parts}
use Rattle.base_collections.proofs.Reaching.{more_splits}
use Rattle.store_table.specs.Located.{located_texts}
use Rattle.store_table.proofs.Finding.{split_none}
use Rattle.store_table.proofs.texts.new_split.Goals as goal

pub returns-then-len-eq0-clause-split : goal.returns-then-len-eq0-clause-split
returns-then-len-eq0-clause-split c =
    split_none (located_texts c.args.held.now.segments c.args.texts.now) c.args.texts.now.index.splits c.requires.texts.split c.args.text.now (record { of = 0; point = 0; value = 16 }) (sym c.len.ensures ∙ c.if-len-eq0.true)

pub returns-clause-split : goal.returns-clause-split
returns-clause-split c =
    let texts : List (List ℕ) = located_texts c.args.held.now.segments c.args.texts.now in
    let old : c.text_at.result.now ≡ get_or texts c.split_between.result.of [] = c.text_at.ensures ∙ ap (λ (n : ℕ). get_or texts n []) (sym c.split_between.ensures.of) in
    more_splits texts c.args.texts.now.index.splits c.args.text.now c.split_between.result c.requires.texts.split (c.split_between.ensures.of ∙ c.candidate-of.ensures.is)
    (subst (λ (t : List ℕ). Parts t c.args.text.now c.split_between.result) old c.split_between.ensures.parts)
