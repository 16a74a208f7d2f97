-- One index less on the list; at the end none is on it.
use Rattle.std.proofs.Common.{◌≡◌, ℕ, sym, subst, arith, length}
use Rattle.vhdl_scope.specs.Links.{AreEven}
use Rattle.vhdl_scope.proofs.SpreadLemmas.{settled}
use Rattle.vhdl_scope.proofs.spread.settle.Goals as goal

pub revisit-requires-clause-even : goal.revisit-requires-clause-even
revisit-requires-clause-even c = subst (λ (words : ℕ). AreEven words c.loop-at.rows) (sym c.loop-at.invariant.room) (c.loop-at.invariant.settling.spread.even _ c.requires.even)

pub returns-clause-taken : goal.returns-clause-taken
returns-clause-taken c =
    let each : length c.args.links.now ≡ length c.loop-at.rows = omega (arith, c.requires.each) in
    settled c.args.links.now c.args.rows.now c.loop-at.rows c.loop-at.work.items c.loop-at.flags each (omega (arith, c.in_default.ensures.cases)) c.loop-at.invariant.settling
