-- One unit more.
use Rattle.std.proofs.Common.{◌≡◌, ◌<◌, ◌∙◌, ◌++◌, ℕ, List, ap, length, arith, subst, sym}
use Rattle.vhdl_outline.specs.declared.outlines.UnitScope.{UnitScope}
use Rattle.vhdl_scope.specs.Names.{implicit, keys_of}
use Rattle.vhdl_scope.specs.Graph.{AreNamed, IsRowOf}
use Rattle.vhdl_scope.proofs.OwnLemmas.{zip_more}
use Rattle.vhdl_scope.proofs.own.push_rows.Goals as goal

pub row_of-requires-clause-first : goal.row_of-requires-clause-first
row_of-requires-clause-first c = subst (λ (words : ℕ). IsRowOf (keys_of c.args.names.now) words c.args.first.now implicit) (sym c.loop-unit.invariant.room) c.requires.first

pub row_of-requires-clause-known : goal.row_of-requires-clause-known
row_of-requires-clause-known c =
    subst (AreNamed (keys_of c.args.names.now)) (sym (c.as_slice.ensures ∙ ap (λ (unit : UnitScope). unit.names) c.unit-item.is)) (c.requires.known c.loop-unit.unit-index c.unit-item.result c.loop-unit-test.true)

pub loop-unit-preserved : goal.loop-unit-preserved
loop-unit-preserved c =
    let within : c.loop-unit.unit-index < length c.args.units.now = omega arith in
    let words : length c.loop-unit.room ≡ length c.args.room.now = c.loop-unit.invariant.room in
    let one = subst (λ (more : List (List ℕ)). IsRowOf (keys_of c.args.names.now) (length c.args.room.now) c.in_ok-row_of.field-0 (implicit ++ more)) (c.as_slice.ensures ∙ ap (λ (unit : UnitScope). unit.names) c.unit-item.is)
    (subst (λ (long : ℕ). IsRowOf (keys_of c.args.names.now) long c.in_ok-row_of.field-0 (implicit ++ c.as_slice.result.now)) words c.in_ok-row_of.ensures.row) in
    record {
      room = c.row_of.ensures.long ∙ words;
      rows = λ before are. rw c.in_ok-push.ensures.items (zip_more (IsRowOf (keys_of c.args.names.now) (length c.args.room.now)) (λ (unit : UnitScope). implicit ++ unit.names) before c.loop-unit.rows.items c.in_ok-row_of.field-0 c.args.units.now c.loop-unit.unit-index c.unit-item.result within (c.loop-unit.invariant.rows before are) one);
    }
