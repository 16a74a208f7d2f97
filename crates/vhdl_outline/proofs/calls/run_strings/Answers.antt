-- One token more, and no call up to the next at which one may be.
use Rattle.std.proofs.Common.{[], ◌+◌, ℕ, map, sym, ◌∙◌, ap, subst, arith}
use Rattle.std.specs.List.{All}
use Rattle.base.specs.declared.lexical.Token.{Token}
use Rattle.vhdl_spec.specs.Units.{token_at}
use Rattle.vhdl_outline.specs.Calls.{is_run_call}
use Rattle.vhdl_outline.specs.Runs.{IsStringIn}
use Rattle.vhdl_spec.proofs.Walks.{indices_none, walk_more}
use Rattle.vhdl_outline.proofs.Passed.{skip_calls}
use Rattle.vhdl_outline.proofs.calls.run_strings.Goals as goal

pub loop-at-init : goal.loop-at-init
loop-at-init c =
    let tokens = c.args.tokens.now.list in
    let called = is_run_call c.args.text.now tokens in
    let named : ℕ → Token = λ (at : ℕ). token_at tokens (at + 2) in
    let passed = c.next_call-at.ensures in
    record {
      after = passed.reaches;
      within = passed.within;
      are = c.new-strings.ensures.items ∙ sym (skip_calls named c.args.text.now tokens c.args.roles.now c.args.start c.args.start c.args.end c.next_call-at.result c.requires.roles (omega arith) passed ∙ ap (map named) (indices_none called c.args.start));
      lie = subst (All (IsStringIn c.args.text.now)) (sym c.new-strings.ensures.items) (λ i token below. absurd (omega (arith, below)));
    }

pub loop-at-preserved : goal.loop-at-preserved
loop-at-preserved c =
    let text = c.args.text.now in
    let tokens = c.args.tokens.now.list in
    let named : ℕ → Token = λ (at : ℕ). token_at tokens (at + 2) in
    let passed = c.next_call-at-in-loop-at.ensures in
    record {
      after = let after = c.loop-at.invariant.after in omega (arith, after, passed.reaches);
      within = passed.within;
      are = walk_more named (is_run_call text tokens) c.args.start c.loop-at.at [] c.loop-at.strings.items c.push_call.new.strings.items c.loop-at.invariant.after c.loop-at.invariant.are c.in_ok-push_call.ensures.added
          ∙ sym (skip_calls named text tokens c.args.roles.now c.args.start (c.loop-at.at + 1) c.args.end c.next_call-at-in-loop-at.result c.requires.roles (let after = c.loop-at.invariant.after in omega (arith, after)) passed);
      lie = c.in_ok-push_call.ensures.lie;
    }
