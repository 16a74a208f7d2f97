-- What the loop of `index_of` keeps: the names of the files so far.
use Rattle.std.proofs.Common.{◌≡◌, take}
use Rattle.project_file.specs.Pairs.{names_of}
use Rattle.project_file.proofs.pairs.index_of.Given as goal

abbrev pub invariant-loop-i : goal.invariant-loop-i
invariant-loop-i l = l.index.keys ≡ names_of (take l.i l.files)
