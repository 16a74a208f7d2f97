-- Both sweeps spread.
use Rattle.vhdl_scope.proofs.SpreadLemmas.{evens, spread_both, still_inside}
use Rattle.vhdl_scope.proofs.spread.sweep_twice.Goals as goal

pub sweep-requires-2-clause-even : goal.sweep-requires-2-clause-even
sweep-requires-2-clause-even c = evens _ _ _ _ _ c.in_ok-sweep.ensures.spread c.requires.even c.sweep.ensures.room

pub sweep-requires-2-clause-inside : goal.sweep-requires-2-clause-inside
sweep-requires-2-clause-inside c = still_inside _ _ _ _ c.in_ok-sweep.ensures.spread c.requires.inside

pub returns-clause-spread : goal.returns-clause-spread
returns-clause-spread c = spread_both _ _ _ _ c.in_ok-sweep.ensures.spread c.in_ok-sweep-2.ensures.spread
