use Rattle.store.proofs.Spelled.{AreLocated}
use Rattle.store.proofs.writing.new_numbers.Given as goal

abbrev pub invariant-loop-k : goal.invariant-loop-k
invariant-loop-k l = AreLocated l.products.numbers l.deps l.numbers l.k
