-- 32 tokens more.
use Rattle.std.proofs.Common.{◌+◌}
use Rattle.vhdl_spec.proofs.PassingSteps.{passed_here, passed_on}
use Rattle.vhdl_outline.specs.Passing.{may_call}
use Rattle.vhdl_outline.proofs.passing.pass_many.Goals as goal

pub loop-at-init : goal.loop-at-init
loop-at-init c = passed_here (may_call c.args.roles.now) c.args.from c.args.end c.requires.ordered

pub loop-at-preserved : goal.loop-at-preserved
loop-at-preserved c = passed_on (may_call c.args.roles.now) c.args.from c.loop-at.at c.args.end (c.loop-at.at + 32) c.loop-at.invariant (c.is_uncalled.ensures c.loop-at-test.true)
