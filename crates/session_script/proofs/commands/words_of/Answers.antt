use Rattle.std.proofs.Common.{rules, ◌∙◌, ap, refl}
use Rattle.std.specs.Prelude.{filter}
use Rattle.std.proofs.lemmas.Iterator.Consumers.{YieldsList-end}
use Rattle.std.proofs.lemmas.Iterator.Splits.{YieldsList-from_slice_split}
use Rattle.session_script.specs.Commands.{is_space, is_word}
use Rattle.session_script.proofs.commands.words_of.Goals as goal

pub returns : goal.returns
returns c =
    let parts = YieldsList-from_slice_split _ is_space c.args.bytes.now (search rules) (search rules) refl (λ x b q k. search rules) in
    let end = YieldsList-end parts c.loop-word.yielded _ c.loop-word.yielded_by _ _ c.in-None.is c.next.ensures.steps in
    c.loop-word.invariant ∙ ap (filter is_word) end.0
