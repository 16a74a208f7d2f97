-- The first of five.
use Rattle.std.proofs.Common.{refl}
use Rattle.child_tools.proofs.ScriptLemmas.{same_first}
use Rattle.child_tools.specs.Exports.{exported_by}
use Rattle.child_tools.proofs.exports.exported_by.Goals as goal

pub returns-in-Some : goal.returns-in-Some
unfolding exported_by
returns-in-Some c = same_first _ _ _ _ _ _ _ _ _ _ c.in-Some.ensures.value refl refl refl refl

pub returns-in-Some-after_word : goal.returns-in-Some-after_word
unfolding exported_by
returns-in-Some-after_word c = same_first _ _ _ _ _ _ _ _ _ _ c.in_default.ensures.value c.in-Some-after_word.ensures.value refl refl refl

pub returns-in-Some-after_word-2 : goal.returns-in-Some-after_word-2
unfolding exported_by
returns-in-Some-after_word-2 c = same_first _ _ _ _ _ _ _ _ _ _ c.in_default.ensures.value c.in_default-after_word.ensures.value c.in-Some-after_word-2.ensures.value refl refl

pub returns-in-Some-after_word-3 : goal.returns-in-Some-after_word-3
unfolding exported_by
returns-in-Some-after_word-3 c = same_first _ _ _ _ _ _ _ _ _ _ c.in_default.ensures.value c.in_default-after_word.ensures.value c.in_default-after_word-2.ensures.value c.in-Some-after_word-3.ensures.value refl

pub returns : goal.returns
unfolding exported_by
returns c = same_first _ _ _ _ _ _ _ _ _ _ c.in_default.ensures.value c.in_default-after_word.ensures.value c.in_default-after_word-2.ensures.value c.in_default-after_word-3.ensures.value c.after_word-5.ensures.value
