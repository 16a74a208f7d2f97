use Rattle.std.proofs.Common.{◌≡◌, ◌≤◌}
use Rattle.base_collections.proofs.numbers.NumberSet.grow_to.Given as goal

abbrev pub invariant-loop : goal.invariant-loop
invariant-loop l = (l.self.numbers ≡ l.fn.self.numbers) × (l.counter ≤ l.self.size)
