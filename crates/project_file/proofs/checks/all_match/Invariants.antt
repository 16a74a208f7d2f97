-- The invariant of the loop of `all_match`: the check of the remaining patterns has the same result as the check of all
-- patterns.
use Rattle.std.proofs.Common.{◌≡◌, drop}
use Rattle.project_file.specs.Few.{all_match}
use Rattle.project_file.proofs.checks.all_match.Given as goal

abbrev pub invariant-loop-i : goal.invariant-loop-i
invariant-loop-i l = all_match l.names (drop l.i l.patterns) ≡ all_match l.names l.patterns
