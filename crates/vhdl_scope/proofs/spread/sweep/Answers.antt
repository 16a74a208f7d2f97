-- One look more.
use Rattle.std.proofs.Common.{ℕ, ◌∙◌, refl, subst, sym}
use Rattle.vhdl_scope.specs.Links.{AreEven}
use Rattle.vhdl_scope.proofs.SpreadLemmas.{spread_more, spread_none, still_inside}
use Rattle.vhdl_scope.proofs.spread.sweep.Goals as goal

pub loop-at-init : goal.loop-at-init
loop-at-init c = record { room = refl; spread = spread_none _ _ }

pub look_below-requires-clause-even : goal.look_below-requires-clause-even
look_below-requires-clause-even c = subst (λ (words : ℕ). AreEven words c.loop-at.rows) (sym c.loop-at.invariant.room) (c.loop-at.invariant.spread.even _ c.requires.even)

pub look_below-requires-clause-inside : goal.look_below-requires-clause-inside
look_below-requires-clause-inside c = still_inside _ _ _ _ c.loop-at.invariant.spread c.requires.inside

pub loop-at-preserved : goal.loop-at-preserved
loop-at-preserved c = record {
  room = c.look_below.ensures.room ∙ c.loop-at.invariant.room;
  spread = spread_more _ _ _ _ _ _ c.loop-at.invariant.spread c.in_ok-look_below.ensures.looked;
}
