-- One token more.
use Rattle.std.proofs.Common.{◌∙◌, ap, sym}
use Rattle.vhdl_spec.specs.References.{is_dot}
use Rattle.vhdl_spec.proofs.PassingSteps.{passed_one}
use Rattle.vhdl_outline.specs.Dots.{is_dotted}
use Rattle.vhdl_outline.proofs.dots.next_dotted.Goals as goal

pub loop-at-preserved : goal.loop-at-preserved
loop-at-preserved c = passed_one (is_dotted c.args.roles.now) c.args.from c.loop-at.at c.args.end c.loop-at-test.true c.loop-at.invariant (sym (c.is_dot.ensures ∙ ap is_dot c.role_at.ensures) ∙ c.if-not-is_dot.true)
