use Rattle.std.proofs.Common.{◌≡◌, take}
use Rattle.store_form_2.proofs.listing.fill.Given as goal

abbrev pub invariant-loop-number : goal.invariant-loop-number
invariant-loop-number l = l.set ≡ record { size = l.fn.set.size; numbers = take l.number-index l.numbers }
