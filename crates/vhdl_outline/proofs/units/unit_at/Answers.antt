-- The unit is where its scan says.
use Rattle.std.proofs.Common.{◌≡◌, length, ap, ◌∙◌, arith}
use Rattle.std.proofs.lemmas.List.{length-map}
use Rattle.vhdl_spec.specs.Units.{role_of}
use Rattle.vhdl_outline.proofs.Placing.{placed}
use Rattle.vhdl_outline.proofs.units.unit_at.Goals as goal

pub returns : goal.returns
returns c =
    let text = c.args._text.now in
    let tokens = c.args.scan.now.tokens.list in
    let at = placed text c.args.scan.now c.requires.scan c.args.number c.get.result.now c.get.ensures in
    let long : length c.args._roles.now ≡ length tokens = ap length c.requires.roles ∙ length-map tokens (role_of text) in
    let last = at.within in
    record { there = c.get.ensures; ordered = at.ordered; within = omega (arith, long, last) }
