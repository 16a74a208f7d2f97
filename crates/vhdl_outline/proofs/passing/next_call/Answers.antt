-- One token more.
use Rattle.std.proofs.Common.{◌∙◌, sym}
use Rattle.vhdl_spec.proofs.PassingSteps.{passed_one}
use Rattle.vhdl_outline.specs.Passing.{may_call}
use Rattle.vhdl_outline.proofs.passing.next_call.Goals as goal

pub loop-at-preserved : goal.loop-at-preserved
loop-at-preserved c = passed_one (may_call c.args.roles.now) c.args.from c.loop-at.at c.args.end c.loop-at-test.true c.loop-at.invariant (sym c.may_call.ensures ∙ c.if-not-may_call.true)
