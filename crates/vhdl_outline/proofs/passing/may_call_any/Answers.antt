-- One token more.
use Rattle.std.proofs.Common.{arith}
use Rattle.vhdl_spec.proofs.PassingSteps.{none_more}
use Rattle.vhdl_outline.specs.Passing.{may_call}
use Rattle.vhdl_outline.proofs.passing.may_call_any.Goals as goal

pub loop-at-init : goal.loop-at-init
loop-at-init c = λ none at reach below. absurd (omega (arith, reach, below))

pub loop-at-preserved : goal.loop-at-preserved
loop-at-preserved c = none_more (may_call c.args.roles.now) c.args.from c.loop-at.at c.loop-at.found c.may_call_within-more.result c.may_call_within-more.ensures c.loop-at.invariant

pub returns : goal.returns
returns c = λ none k reach below. c.loop-at.invariant none k reach (omega (arith, below, c.loop-at-test.false))
