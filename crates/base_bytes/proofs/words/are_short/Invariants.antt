use Rattle.std.proofs.Common.{ℕ, List, ◌<◌, ◌≤◌, length, get_or}
use Rattle.base_bytes.proofs.words.are_short.Given as goal
use Rattle.base.specs.declared.limits.TheConstants.{WORD_LIMIT}

abbrev pub invariant-loop-word : goal.invariant-loop-word
invariant-loop-word l = (k : ℕ) (d : List ℕ) → k < l.word-index → length (get_or l.words k d) ≤ WORD_LIMIT
