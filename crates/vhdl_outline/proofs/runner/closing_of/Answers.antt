-- One token more is counted.
use Rattle.std.proofs.Common.{◌<◌, ◌∙◌, length, ap, sym, arith}
use Rattle.vhdl_spec.specs.Units.{is_opening, is_closing}
use Rattle.vhdl_outline.specs.Calls.{is_level_after}
use Rattle.vhdl_outline.proofs.Counted.{counted, level_is, level_not}
use Rattle.vhdl_spec.proofs.Walks.{first_here, first_not_yet}
use Rattle.vhdl_outline.proofs.runner.closing_of.Goals as goal

pub loop-at-preserved : goal.loop-at-preserved
loop-at-preserved c =
    let within : c.loop-at.at < length c.args.roles.now = omega arith in
    let opened = counted is_opening c.args.roles.now c.args.opening c.loop-at.at c.loop-at.opened c.is_opening.result c.one_if-opened.result c.loop-at.auto.at within c.loop-at.invariant.opened (c.is_opening.ensures ∙ ap is_opening c.role_at.ensures) c.one_if-opened.ensures.value in
    let closed = counted is_closing c.args.roles.now c.args.opening c.loop-at.at c.loop-at.closed c.is_closing.result c.one_if-closed.result c.loop-at.auto.at within c.loop-at.invariant.closed (c.is_closing.ensures ∙ ap is_closing c.role_at-in-loop-at.ensures) c.one_if-closed.ensures.value in
    record {
      opened = opened;
      closed = closed;
      few_opened = let one = c.one_if-opened.ensures.few in let few = c.loop-at.invariant.few_opened in omega (arith, c.loop-at.auto.at);
      few_closed = let one = c.one_if-closed.ensures.few in let few = c.loop-at.invariant.few_closed in omega (arith, c.loop-at.auto.at);
      none = first_not_yet (is_level_after c.args.roles.now c.args.opening) c.args.opening c.loop-at.at c.loop-at.auto.at c.loop-at.invariant.none (level_not _ _ _ _ opened closed c.if-opened-closed.false);
    }

pub returns-then-opened-closed-clause-first : goal.returns-then-opened-closed-clause-first
returns-then-opened-closed-clause-first c =
    let within : c.loop-at.at < length c.args.roles.now = omega arith in
    let opened = counted is_opening c.args.roles.now c.args.opening c.loop-at.at c.loop-at.opened c.is_opening.result c.one_if-opened.result c.loop-at.auto.at within c.loop-at.invariant.opened (c.is_opening.ensures ∙ ap is_opening c.role_at.ensures) c.one_if-opened.ensures.value in
    let closed = counted is_closing c.args.roles.now c.args.opening c.loop-at.at c.loop-at.closed c.is_closing.result c.one_if-closed.result c.loop-at.auto.at within c.loop-at.invariant.closed (c.is_closing.ensures ∙ ap is_closing c.role_at-in-loop-at.ensures) c.one_if-closed.ensures.value in
    sym (first_here (is_level_after c.args.roles.now c.args.opening) c.args.opening c.loop-at.at c.args.end c.loop-at.auto.at c.loop-at-test.true c.loop-at.invariant.none (level_is _ _ _ _ opened closed c.if-opened-closed.true))
