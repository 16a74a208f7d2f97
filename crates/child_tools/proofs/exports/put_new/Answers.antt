-- What is put is there.
use Rattle.std.proofs.Common.{◌≡◌, true, cond, Some, subst}
use Rattle.base_collections.specs.Maps.{get}
use Rattle.vhdl_units.specs.UnitKeys.{is_same_unit}
use Rattle.vhdl_units.specs.declared.units.UnitKey.{UnitKey}
use Rattle.child_tools.proofs.MissingLemmas.{has_put}
use Rattle.child_tools.proofs.exports.put_new.Goals as goal

pub returns : goal.returns
returns c =
    let old = c.args.libraries.now in
    let new = c.insert.new.self in
    has_put c.args.library.now old new
    (subst (λ (key : UnitKey). (other : UnitKey) → get is_same_unit new other ≡ cond (is_same_unit key other) (Some true) (get is_same_unit old other)) c.in_ok-library_key.ensures c.in_ok-insert.ensures.updates)
