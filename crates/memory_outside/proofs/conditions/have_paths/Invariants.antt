use Rattle.std.proofs.Common.{◌↔◌, drop}
use Rattle.memory_outside.specs.Trees.{HavePaths}
use Rattle.memory_outside.proofs.conditions.have_paths.Given as goal

abbrev pub invariant-loop-file : goal.invariant-loop-file
invariant-loop-file l = HavePaths l.files ↔ HavePaths (drop l.file-index l.files)
