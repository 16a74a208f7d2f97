-- One need more.
use Rattle.std.proofs.Common.{◌≡◌, ◌≤◌, length, All, subst, arith}
use Rattle.std.proofs.lemmas.List.{take_all}
use Rattle.std.proofs.lemmas.List.Elements.{All-more}
use Rattle.run_scheduler.specs.declared.plans.Need.{Need}
use Rattle.run_scheduler.specs.declared.plans.Need.TheVariants.{Fresh}
use Rattle.tests_verdicts.proofs.asked.all_fresh.Goals as goal

abbrev IsMet : Need → Type 0
IsMet need = need ≡ Fresh

pub loop-need-preserved : goal.loop-need-preserved
loop-need-preserved c = All-more IsMet c.args.needs.now c.loop-need.need-index _ c.loop-need-test.true c.loop-need.invariant (c.is_fresh.ensures c.if-not-is_fresh.false)

pub returns : goal.returns
returns c = λ met.
    let all : length c.args.needs.now ≤ c.loop-need.need-index = omega (arith, c.loop-need-test.false) in
    subst (All IsMet) (take_all c.loop-need.need-index c.args.needs.now all) c.loop-need.invariant
