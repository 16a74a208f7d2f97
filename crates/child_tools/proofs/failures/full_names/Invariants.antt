-- The full names of the cases up to the index.
use Rattle.std.proofs.Common.{◌≡◌, ◌∷◌, map, take, codes}
use Rattle.child_tools.specs.Benches.{full_name}
use Rattle.child_tools.proofs.failures.full_names.Given as goal

abbrev pub invariant-loop-name : goal.invariant-loop-name
invariant-loop-name l = l.names ≡ map (full_name l.job) (codes "all" ∷ take l.name-index l.name-items)
