-- No end of the comment so far.
use Rattle.std.proofs.Common.{length, ◌-◌, ◌+◌, ◌≤◌, ◌<◌, ℕ}
use Rattle.vhdl_spec.specs.Tokens.{EndsComment}
use Rattle.vhdl_lex.proofs.ends.comment_end.Given as goal

abbrev pub invariant-loop-close : goal.invariant-loop-close
invariant-loop-close l = record { reaches : l.at + 2 ≤ l.close; within : l.close ≤ length l.text; none : (at : ℕ) → l.at + 2 ≤ at → at < l.close → EndsComment l.text at → ⊥ }

abbrev pub decreases-loop-close : goal.decreases-loop-close
decreases-loop-close l = length l.text - l.close
