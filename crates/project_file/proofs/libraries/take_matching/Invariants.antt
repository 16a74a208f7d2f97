-- The invariant of the loop of `take_matching`: the names so far that the pattern matches are taken.
use Rattle.std.proofs.Common.{◌≡◌, ◌++◌, take}
use Rattle.std.specs.Prelude.{filter}
use Rattle.std.specs.List.{list_any}
use Rattle.project_file.specs.Paths.{matches_path}
use Rattle.project_file.specs.Libraries.{texts_at, AreIndices}
use Rattle.project_file.proofs.MatchSteps.{takes}
use Rattle.project_file.proofs.libraries.take_matching.Given as goal

abbrev pub invariant-loop-i : goal.invariant-loop-i
invariant-loop-i l = record {
  some : l.any ≡ list_any (matches_path l.pattern) (take l.i l.names);
  indices : AreIndices l.names l.found;
  found : texts_at l.names l.found.numbers ≡ texts_at l.names l.fn.found.numbers ++ filter (takes (matches_path l.pattern) (texts_at l.names l.fn.found.numbers)) (take l.i l.names);
}
