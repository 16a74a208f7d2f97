-- The row has the library number, and takes the row of the source.
use Rattle.std.proofs.Common.{◌||◌, ◌∙◌, [], sym, ap}
use Rattle.std.proofs.lemmas.List.{get_or_default}
use Rattle.vhdl_scope.specs.Bits.{row_has}
use Rattle.vhdl_scope.proofs.LookLemmas.{followed}
use Rattle.vhdl_scope.proofs.look.follow.Goals as goal

pub returns-then-has-clause-looked : goal.returns-then-has-clause-looked
returns-then-has-clause-looked c =
    followed c.args.link c.args.rows.now c.args.row.now c.join.new.self c.in_ok-grown.grown (sym c.has.ensures ∙ c.if-has.true)
    (λ number. c.in_ok-grown.ensures.bits number ∙ ap (λ row. row_has c.args.row.now number || row_has row number) (c.index-rows-link.is ∙ get_or_default c.args.rows.now c.args.link.source _ [] c.requires.source))
    c.join.ensures.len c.in_ok-grown.ensures.same c.in_ok-grown.ensures.grows
