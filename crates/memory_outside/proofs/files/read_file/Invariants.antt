use Rattle.std.proofs.Common.{◌≡◌, drop}
use Rattle.memory_outside.specs.Trees.{file_at}
use Rattle.memory_outside.proofs.files.read_file.Given as goal

abbrev pub invariant-loop-file : goal.invariant-loop-file
invariant-loop-file l = file_at l.files l.path ≡ file_at (drop l.file-index l.files) l.path
