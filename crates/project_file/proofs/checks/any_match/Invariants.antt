-- What the loop of `any_match` keeps: the pattern matches none of the names so far.
use Rattle.std.proofs.Common.{◌≡◌, drop}
use Rattle.std.specs.List.{list_any}
use Rattle.project_file.specs.Paths.{matches_path}
use Rattle.project_file.proofs.checks.any_match.Given as goal

abbrev pub invariant-loop-i : goal.invariant-loop-i
invariant-loop-i l = list_any (matches_path l.pattern) (drop l.i l.names) ≡ list_any (matches_path l.pattern) l.names
