use Rattle.std.proofs.Common.{rules, inl, inr}
use Rattle.store_table.proofs.held.HeldPayloads.len.Goals as goal

pub overflow_add-result-2 : goal.overflow_add-result-2
overflow_add-result-2 c = elim c.self.invariant [
  | inl none ↦ search rules
  | inr none ↦ search rules
]
