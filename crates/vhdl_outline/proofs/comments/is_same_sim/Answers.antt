-- Word by word.
use Rattle.std.proofs.Common.{codes, sym, ◌∙◌}
use Rattle.vhdl_outline.specs.Calls.{has_word_first, is_nothing}
use Rattle.vhdl_outline.proofs.comments.is_same_sim.Goals as goal

pub returns-in_default : goal.returns-in_default
returns-in_default c = sym (c.in_default.ensures (has_word_first (codes "vunit:") (has_word_first (codes "run_all_in_same_sim") is_nothing)))

pub returns-in_default-after_word : goal.returns-in_default-after_word
returns-in_default-after_word c = sym (c.in-Some.ensures (has_word_first (codes "vunit:") (has_word_first (codes "run_all_in_same_sim") is_nothing)) ∙ c.in_default-after_word.ensures (has_word_first (codes "run_all_in_same_sim") is_nothing))

pub returns-in_default-after_word-2 : goal.returns-in_default-after_word-2
returns-in_default-after_word-2 c = sym (c.in-Some.ensures (has_word_first (codes "vunit:") (has_word_first (codes "run_all_in_same_sim") is_nothing)) ∙ c.in-Some-after_word.ensures (has_word_first (codes "run_all_in_same_sim") is_nothing) ∙ c.in_default-after_word-2.ensures is_nothing)

pub returns : goal.returns
returns c = c.is_empty.ensures ∙ sym (c.in-Some.ensures (has_word_first (codes "vunit:") (has_word_first (codes "run_all_in_same_sim") is_nothing)) ∙ c.in-Some-after_word.ensures (has_word_first (codes "run_all_in_same_sim") is_nothing) ∙ c.in-Some-after_word-2.ensures is_nothing)
