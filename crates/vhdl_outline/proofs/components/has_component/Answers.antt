-- One token more.
use Rattle.std.proofs.Common.{◌∙◌, ap, arith}
use Rattle.std.proofs.lemmas.List.{get_or_default}
use Rattle.base.specs.declared.design.Role.TheVariants.{Library, Other}
use Rattle.vhdl_outline.specs.Components.{is_component_at, is_component_word}
use Rattle.vhdl_spec.proofs.PassingSteps.{none_more}
use Rattle.vhdl_outline.proofs.components.has_component.Goals as goal

pub loop-at-init : goal.loop-at-init
loop-at-init c = λ none at reach below. absurd (omega (arith, reach, below))

pub loop-at-preserved : goal.loop-at-preserved
loop-at-preserved c = none_more (is_component_at c.args.roles.now) c.args.from c.loop-at.at c.loop-at.found c.is_component_word-more.result (c.is_component_word-more.ensures ∙ ap is_component_word (get_or_default c.args.roles.now c.loop-at.at Library Other (omega (arith, c.requires, c.loop-at-test.true)))) c.loop-at.invariant

pub returns : goal.returns
returns c = λ none k reach below. c.loop-at.invariant none k reach (omega (arith, below, c.loop-at-test.false))
