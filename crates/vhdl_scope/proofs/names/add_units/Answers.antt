-- Those of one unit more are there.
use Rattle.std.proofs.Common.{◌<◌, ◌∙◌, ℕ, List, [], length, arith, ap, subst}
use Rattle.vhdl_outline.specs.declared.outlines.UnitScope.{UnitScope}
use Rattle.vhdl_scope.specs.Names.{HasAll, keys_of}
use Rattle.vhdl_scope.proofs.KeyLemmas.{all_more}
use Rattle.vhdl_scope.proofs.names.add_units.Goals as goal

pub loop-unit-preserved : goal.loop-unit-preserved
loop-unit-preserved c =
    let within : c.loop-unit.unit-index < length c.args.units.now = omega arith in
    let one = subst (λ (some : List (List ℕ)). HasAll some (keys_of c.loop-unit.names) (keys_of c.add_all.new.names)) (c.as_slice.ensures ∙ ap (λ (unit : UnitScope). unit.names) c.unit-item.is) c.in_ok-add_all.ensures in
    all_more [] (λ (unit : UnitScope). unit.names) c.args.units.now c.loop-unit.unit-index c.unit-item.result _ _ _ within c.loop-unit.invariant one
