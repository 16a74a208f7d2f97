-- One token more.
use Rattle.std.proofs.Common.{◌∙◌, ap, sym}
use Rattle.vhdl_outline.specs.Components.{is_component_at, is_component_word}
use Rattle.vhdl_spec.proofs.PassingSteps.{passed_one}
use Rattle.vhdl_outline.proofs.components.next_component.Goals as goal

pub loop-at-preserved : goal.loop-at-preserved
loop-at-preserved c = passed_one (is_component_at c.args.roles.now) c.args.from c.loop-at.at c.args.end c.loop-at-test.true c.loop-at.invariant (sym (c.is_component_word.ensures ∙ ap is_component_word c.role_at.ensures) ∙ c.if-not-is_component_word.true)
