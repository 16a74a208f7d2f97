-- The first `for` is the one here, where there was none before.
use Rattle.std.proofs.Common.{ℕ, ap, sym, ◌∙◌}
use Rattle.vhdl_spec.specs.Units.{role_at}
use Rattle.vhdl_spec.specs.References.{is_for}
use Rattle.vhdl_spec.proofs.Walks.{first_none, first_not_yet, first_here}
use Rattle.vhdl_outline.proofs.structural.first_for.Goals as goal

pub loop-at-init : goal.loop-at-init
loop-at-init c = first_none (λ (at : ℕ). is_for (role_at c.args.roles.now at)) c.args.start

pub loop-at-preserved : goal.loop-at-preserved
loop-at-preserved c = first_not_yet (λ (at : ℕ). is_for (role_at c.args.roles.now at)) c.args.start c.loop-at.at c.loop-at.auto.at c.loop-at.invariant (sym (ap is_for c.role_at.ensures) ∙ sym c.is_for.ensures ∙ c.if-is_for.false)

pub returns-then-is_for : goal.returns-then-is_for
returns-then-is_for c = record {
  first = sym (first_here (λ (at : ℕ). is_for (role_at c.args.roles.now at)) c.args.start c.loop-at.at c.args.end c.loop-at.auto.at c.loop-at-test.true c.loop-at.invariant (sym (ap is_for c.role_at.ensures) ∙ sym c.is_for.ensures ∙ c.if-is_for.true));
  within = c.loop-at-test.true;
}
