-- No line end so far.
use Rattle.std.proofs.Common.{length, ◌-◌, ◌≤◌, not}
use Rattle.vhdl_spec.specs.Tokens.{EachByte, is_line_end}
use Rattle.vhdl_lex.proofs.ends.line_end.Given as goal

abbrev pub invariant-loop-end : goal.invariant-loop-end
invariant-loop-end l = record { reaches : l.from ≤ l.end; within : l.end ≤ length l.text; each : EachByte (λ byte. not (is_line_end byte)) l.text l.from l.end }

abbrev pub decreases-loop-end : goal.decreases-loop-end
decreases-loop-end l = length l.text - l.end
