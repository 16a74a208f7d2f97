-- One unit more is wanted.
use Rattle.std.proofs.Common.{◌≡◌, false, cond, Some, List, take, sym, subst}
use Rattle.base_collections.specs.Maps.{get}
use Rattle.vhdl_units.specs.UnitKeys.{is_same_unit}
use Rattle.vhdl_units.specs.declared.units.UnitKey.{UnitKey}
use Rattle.child_tools.proofs.MissingLemmas.{AreWanted, next_take, wanted_more}
use Rattle.child_tools.proofs.exports.units_to_find.Goals as goal

pub loop-unit-preserved : goal.loop-unit-preserved
loop-unit-preserved c =
    let old = c.loop-unit.flags in
    let new = c.insert.new.self in
    subst (λ (units : List UnitKey). AreWanted units new) (sym (next_take c.args.units.now c.loop-unit.unit-index c.unit-item.result c.loop-unit-test.true c.unit-item.is))
    (wanted_more (take c.loop-unit.unit-index c.args.units.now) c.unit-item.result old new c.loop-unit.invariant
    (subst (λ (key : UnitKey). (other : UnitKey) → get is_same_unit new other ≡ cond (is_same_unit key other) (Some false) (get is_same_unit old other)) c.in_ok-copy.ensures c.in_ok-insert.ensures.updates))
