-- The first is the one here, where there was none before.
use Rattle.std.proofs.Common.{sym, ◌∙◌}
use Rattle.vhdl_outline.specs.Calls.{opens_generics}
use Rattle.vhdl_spec.proofs.Walks.{first_none, first_not_yet, first_here}
use Rattle.vhdl_outline.proofs.runner.first_generics.Goals as goal

pub loop-at-init : goal.loop-at-init
loop-at-init c = first_none (opens_generics c.args.roles.now) c.args.start

pub loop-at-preserved : goal.loop-at-preserved
loop-at-preserved c = first_not_yet (opens_generics c.args.roles.now) c.args.start c.loop-at.at c.loop-at.auto.at c.loop-at.invariant (sym c.opens_generics.ensures ∙ c.if-opens_generics.false)

pub returns-then-opens_generics : goal.returns-then-opens_generics
returns-then-opens_generics c = record {
  first = sym (first_here (opens_generics c.args.roles.now) c.args.start c.loop-at.at c.args.end c.loop-at.auto.at c.loop-at-test.true c.loop-at.invariant (sym c.opens_generics.ensures ∙ c.if-opens_generics.true));
  within = c.loop-at-test.true;
}
