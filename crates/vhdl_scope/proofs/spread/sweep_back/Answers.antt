-- One look more.
use Rattle.std.proofs.Common.{ℕ, ◌∙◌, refl, subst, sym}
use Rattle.vhdl_scope.specs.Links.{AreEven}
use Rattle.vhdl_scope.proofs.SpreadLemmas.{spread_more, spread_none}
use Rattle.vhdl_scope.proofs.spread.sweep_back.Goals as goal

pub loop-index-init : goal.loop-index-init
loop-index-init c = record { room = refl; spread = spread_none _ _ }

pub look_at-requires-clause-even : goal.look_at-requires-clause-even
look_at-requires-clause-even c = subst (λ (words : ℕ). AreEven words c.loop-index.rows) (sym c.loop-index.invariant.room) (c.loop-index.invariant.spread.even _ c.requires.even)

pub loop-index-preserved : goal.loop-index-preserved
loop-index-preserved c = record {
  room = c.look_at.ensures.room ∙ c.loop-index.invariant.room;
  spread = spread_more _ _ _ _ _ _ c.loop-index.invariant.spread c.in_ok-look_at.ensures.looked;
}
