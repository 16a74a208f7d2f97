use Rattle.std.proofs.Common.{◌≡◌}
use Rattle.store_form_2.specs.Fits.{AreFrom, AreLocated}
use Rattle.store_form_2.proofs.listing.is_listed.Given as goal

abbrev pub invariant-loop-number : goal.invariant-loop-number
invariant-loop-number l = AreLocated l.deps.numbers l.count l.inner l.number-index l.least × (l.covered.size ≡ l.fn.covered.size) × AreFrom l.fn.covered.numbers l.inner l.covered.numbers
