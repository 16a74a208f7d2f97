-- What the loop of `take_names` keeps: what the other patterns take after those so far is what all take.
use Rattle.std.proofs.Common.{◌≡◌, drop}
use Rattle.project_file.specs.Toml.{matching_names}
use Rattle.project_file.specs.Libraries.{texts_at, AreIndices}
use Rattle.project_file.proofs.libraries.take_names.Given as goal

abbrev pub invariant-loop-i : goal.invariant-loop-i
invariant-loop-i l = record {
  indices : AreIndices l.names l.found;
  found : matching_names l.names (texts_at l.names l.found.numbers) (drop l.i l.patterns) ≡ matching_names l.names (texts_at l.names l.fn.found.numbers) l.patterns;
}
