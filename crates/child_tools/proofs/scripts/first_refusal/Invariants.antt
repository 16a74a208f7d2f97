-- The comments from the index on have the same refusals as all comments.
use Rattle.std.proofs.Common.{◌≡◌, drop}
use Rattle.child_tools.proofs.ScriptLemmas.{refusals}
use Rattle.child_tools.proofs.scripts.first_refusal.Given as goal

abbrev pub invariant-loop-span : goal.invariant-loop-span
invariant-loop-span l = refusals l.text (drop l.span-index l.tokens.comments) ≡ refusals l.text l.tokens.comments
