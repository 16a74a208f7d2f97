-- What the loop of `index_of` keeps: the names so far.
use Rattle.std.proofs.Common.{◌≡◌, take, map}
use Rattle.project_file.specs.Libraries.{alone}
use Rattle.project_file.proofs.lookups.index_of.Given as goal

abbrev pub invariant-loop-i : goal.invariant-loop-i
invariant-loop-i l = l.paths.keys ≡ map alone (take l.i l.names)
