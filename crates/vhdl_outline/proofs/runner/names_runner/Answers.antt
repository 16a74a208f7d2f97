-- The word is here, or it isn't.
use Rattle.std.proofs.Common.{ℕ, List, codes, is_some, sym, ◌∙◌, ap}
use Rattle.vhdl_outline.specs.Calls.{is_word_at}
use Rattle.vhdl_spec.proofs.Walks.{first_here, first_not_yet}
use Rattle.vhdl_outline.proofs.runner.names_runner.Goals as goal

pub loop-at-preserved : goal.loop-at-preserved
loop-at-preserved c = first_not_yet (is_word_at (codes "runner_cfg") c.args.text.now c.args.tokens.now.list) c.args.start c.loop-at.at c.loop-at.auto.at c.loop-at.invariant
    (sym (c.is_word.ensures ∙ ap (λ (word : List ℕ). is_word_at word c.args.text.now c.args.tokens.now.list c.loop-at.at) c.as_slice.ensures) ∙ c.if-is_word.false)

pub returns-then-is_word : goal.returns-then-is_word
returns-then-is_word c = sym (ap is_some (first_here (is_word_at (codes "runner_cfg") c.args.text.now c.args.tokens.now.list) c.args.start c.loop-at.at c.args.end c.loop-at.auto.at c.loop-at-test.true c.loop-at.invariant
    (sym (c.is_word.ensures ∙ ap (λ (word : List ℕ). is_word_at word c.args.text.now c.args.tokens.now.list c.loop-at.at) c.as_slice.ensures) ∙ c.if-is_word.true)))
