use Rattle.std.proofs.Common.{sym, ◌∙◌, arith}
use Rattle.base_collections.proofs.Differing.{differ}
use Rattle.base_collections.proofs.splits.differing_point.Goals as goal

pub returns-else-value_at : goal.returns-else-value_at
returns-else-value_at c =
    differ c.args.old.now c.args.new.now c.first_difference-at.result c.requires c.first_difference-at.ensures.within_a c.first_difference-at.ensures.within_b c.first_difference-at.ensures.same c.first_difference-at.ensures.other
    (sym c.value_at.ensures ∙ omega (arith, c.if-value_at.false) ∙ c.value_at-2.ensures)
