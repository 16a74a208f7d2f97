-- What the loop of `any_matches` keeps: none of the patterns so far matches the path.
use Rattle.std.proofs.Common.{◌≡◌, drop}
use Rattle.std.specs.List.{list_any}
use Rattle.project_file.specs.Paths.{matches_path}
use Rattle.project_file.proofs.lookups.any_matches.Given as goal

abbrev pub invariant-loop-i : goal.invariant-loop-i
invariant-loop-i l = list_any (λ pattern. matches_path pattern l.path) (drop l.i l.patterns) ≡ list_any (λ pattern. matches_path pattern l.path) l.patterns
