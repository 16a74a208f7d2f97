-- Each element that is at a token is one more element of the file.
use Rattle.std.proofs.Common.{◌+◌, List, length, ◌∙◌, ap, arith}
use Rattle.base.specs.declared.design.Role.{Role}
use Rattle.vhdl_spec.specs.Units.{begins_generate}
use Rattle.vhdl_units.proofs.Adding.{roles_len, next_offset, outlined_more}
use Rattle.vhdl_units.proofs.file.read.Goals as goal

pub begins_at-begins-requires-clause-ordered : goal.begins_at-begins-requires-clause-ordered
begins_at-begins-requires-clause-ordered c =
    let offset = next_offset c.args.text.now c.args.tokens.now c.loop-at.units.items c.loop-at.begins c.loop-at.lead c.loop-at.at c.loop-at.invariant.outlined c.add_unit.new.units.items c.in_ok-next.next c.in_ok-next.ensures in
    omega (arith, offset.0)

pub begins_at-begins-requires-clause-within : goal.begins_at-begins-requires-clause-within
begins_at-begins-requires-clause-within c =
    let offset = next_offset c.args.text.now c.args.tokens.now c.loop-at.units.items c.loop-at.begins c.loop-at.lead c.loop-at.at c.loop-at.invariant.outlined c.add_unit.new.units.items c.in_ok-next.next c.in_ok-next.ensures in
    omega (arith, offset.1, ap length c.loop-at.invariant.roles_are, roles_len c.args.text.now c.args.tokens.now)

pub loop-at-smaller : goal.loop-at-smaller
loop-at-smaller c =
    let offset = next_offset c.args.text.now c.args.tokens.now c.loop-at.units.items c.loop-at.begins c.loop-at.lead c.loop-at.at c.loop-at.invariant.outlined c.add_unit.new.units.items c.in_ok-next.next c.in_ok-next.ensures in
    omega (arith, offset.0, c.loop-at-test.true)

pub loop-at-preserved : goal.loop-at-preserved
loop-at-preserved c = record {
  roles_are = c.loop-at.invariant.roles_are;
  outlined = outlined_more c.args.text.now c.args.tokens.now c.loop-at.units.items c.loop-at.begins c.loop-at.lead c.loop-at.at c.loop-at.invariant.outlined c.add_unit.new.units.items c.in_ok-next.next c.begins_at-begins.result c.in_ok-next.ensures
      (c.begins_at-begins.ensures ∙ ap (λ (roles : List Role). begins_generate roles (c.in_ok-next.next.last + 1)) c.loop-at.invariant.roles_are);
}
