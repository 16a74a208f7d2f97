-- What the loop of `add_all` keeps: the words so far are joined, and the others are unchanged.
use Rattle.std.proofs.Common.{◌≡◌, ℕ, ◌<◌, ◌≤◌, get_or}
use Rattle.std.specs.Int.Bits.{bit_or}
use Rattle.base_collections.proofs.set.PositionSet.add_all.Given as goal

abbrev pub invariant-loop-word : goal.invariant-loop-word
invariant-loop-word l = record {
  joined : (k : ℕ) → k < l.word → get_or l.self.words k 0 ≡ bit_or (get_or l.fn.self.words k 0) (get_or l.other.words k 0);
  rest : (k : ℕ) → l.word ≤ k → get_or l.self.words k 0 ≡ get_or l.fn.self.words k 0;
}
