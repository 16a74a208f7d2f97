-- What remains to be proved of `numbers_of`.
use Rattle.std.proofs.Common.{◌<◌, subst, sym, ◌∙◌, arith, ℕ}
use Rattle.std.specs.Prelude.{All}
use Rattle.std.proofs.lemmas.List.{length-set}
use Rattle.project_views.proofs.Numbering.{numbered_more}
use Rattle.project_views.proofs.Rising.{few}
use Rattle.project_minimal.proofs.parts.numbers_of.Goals as goal

pub overflow_cast-number : goal.overflow_cast-number
overflow_cast-number c = omega (arith, few c.args.kept.now c.requires.rising c.args.count c.requires.within, c.requires.few, c.loop-number-test.true)

pub loop-number-preserved : goal.loop-number-preserved
loop-number-preserved c = record {
  count = length-set _ _ _ ∙ c.loop-number.invariant.count;
  numbers = numbered_more c.loop-number.table.items c.args.kept.now c.loop-number.number c.requires.rising (subst (λ (n : ℕ). All (λ p. p < n) c.args.kept.now) (sym c.loop-number.invariant.count) c.requires.within) c.loop-number-test.true c.loop-number.invariant.numbers;
}
