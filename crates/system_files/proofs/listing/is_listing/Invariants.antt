use Rattle.std.proofs.Common.{◌≤◌, length}
use Rattle.std.specs.Prelude.{drop}
use Rattle.std.specs.List.{AllByRecursion}
use Rattle.outside.specs.Trees.{IsName, IsRising}
use Rattle.system_files.proofs.listing.is_listing.Given as goal

-- the paths from here on are a listing
abbrev pub invariant-loop-at : goal.invariant-loop-at
invariant-loop-at l = (l.at ≤ length l.paths) × IsRising (drop l.at l.paths) × AllByRecursion IsName (drop l.at l.paths)

abbrev pub decreases-loop-at : goal.decreases-loop-at
decreases-loop-at l = l.at
