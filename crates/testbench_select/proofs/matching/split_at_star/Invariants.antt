-- No pattern part so far stands for any bytes.
use Rattle.std.proofs.Common.{◌≡◌, ◌≤◌, ◌<◌, ◌-◌, ℕ, false, length, get_or}
use Rattle.testbench_select.specs.declared.pattern.PatternPart.{PatternPart}
use Rattle.testbench_select.specs.Segments.{is_any_bytes}
use Rattle.testbench_select.proofs.matching.split_at_star.Given as goal

abbrev pub invariant-loop-count : goal.invariant-loop-count
invariant-loop-count l = record { within : l.count ≤ length l.pattern_parts; single : (i : ℕ) (pattern_part : PatternPart) → i < l.count → is_any_bytes (get_or l.pattern_parts i pattern_part) ≡ false }

abbrev pub decreases-loop-count : goal.decreases-loop-count
decreases-loop-count l = length l.pattern_parts - l.count
