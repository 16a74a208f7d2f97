use Rattle.std.proofs.Common.{◌≡◌, take, filter}
use Rattle.outside.specs.Trees.{is_listed}
use Rattle.memory_outside.specs.Trees.{paths_of}
use Rattle.memory_outside.proofs.listing.listed_paths.Given as goal

abbrev pub invariant-loop-file : goal.invariant-loop-file
invariant-loop-file l = l.paths.items ≡ filter is_listed (paths_of (take l.file-index l.files))
