use Rattle.std.proofs.Common.{◌≡◌, ◌+◌, ◌≤◌, length, sum_by, drop, List, ℕ}
use Rattle.passes_table.proofs.Words.{WordsSoFar}
use Rattle.passes_table.proofs.sizes.word_sizes.Given as goal

abbrev pub invariant-loop : goal.invariant-loop
invariant-loop l = WordsSoFar (λ (words : List (List ℕ)). (l.total ≡ sum_by (λ word. length word) words) × (l.total + length l.reader ≤ length (drop l.fn.range.start l.fn.bytes))) (drop l.fn.range.start l.fn.bytes) l.count l.counter l.reader
