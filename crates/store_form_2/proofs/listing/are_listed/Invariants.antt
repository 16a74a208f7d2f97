use Rattle.std.proofs.Common.{◌≡◌, ◌≤◌, length}
use Rattle.store_form_2.specs.Fits.{AreDone}
use Rattle.store_form_2.proofs.listing.are_listed.Given as goal

abbrev pub invariant-loop-left : goal.invariant-loop-left
invariant-loop-left l = (l.left ≤ length l.deps) × (l.set ≡ record { size = l.fn.set.size; numbers = l.deps }) × (l.covered.size ≡ l.fn.covered.size) × AreDone l.table.nodes l.deps l.covered.numbers l.left

abbrev pub decreases-loop-left : goal.decreases-loop-left
decreases-loop-left l = l.left
