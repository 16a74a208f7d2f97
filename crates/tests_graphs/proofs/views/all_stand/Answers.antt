use Rattle.std.proofs.Common.{◌≡◌, sym, subst, arith, inl, inr}
use Rattle.std.proofs.lemmas.Bool.{cases_lt}
use Rattle.store_form_2.specs.Validity.{StandsAt}
use Rattle.tests_graphs.proofs.views.all_stand.Goals as goal

pub loop-rank-preserved : goal.loop-rank-preserved
loop-rank-preserved c = λ rank lt. elim (cases_lt rank c.loop-rank.rank) [
  | inl low ↦ c.loop-rank.invariant rank low
  | inr high ↦
      let same : rank ≡ c.loop-rank.rank = omega (arith, lt, high) in
      subst (StandsAt c.args.entries.now) (sym same) (c.in_ok-stands_at.ensures.0 c.if-not-branch.false)
]
