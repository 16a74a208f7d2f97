-- The index after the bytes up to the index.
use Rattle.std.proofs.Common.{◌++◌, ℕ, List, take, reverse}
use Rattle.testbench_scan.specs.Paths.{HasGrown, LeadsBack}
use Rattle.testbench_scan.proofs.paths.walk.Given as goal

abbrev pub invariant-loop-byte : goal.invariant-loop-byte
invariant-loop-byte l = record {
  leads : (before : List ℕ) → LeadsBack l.initial.steps.keys l.from before → LeadsBack l.steps.keys l.name_index (reverse (take l.byte-index l.bytes) ++ before);
  grown : HasGrown l.initial.steps.keys l.steps.keys;
}
