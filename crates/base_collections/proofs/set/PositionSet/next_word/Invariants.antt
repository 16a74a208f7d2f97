-- What the loop of `next_word` keeps: the words before are 0.
use Rattle.std.proofs.Common.{◌≡◌, ℕ, ◌<◌, ◌≤◌, get_or}
use Rattle.base_collections.proofs.set.PositionSet.next_word.Given as goal

abbrev pub invariant-loop-word : goal.invariant-loop-word
invariant-loop-word l = (k : ℕ) → l.start ≤ k → k < l.word → get_or l.self.words k 0 ≡ 0
