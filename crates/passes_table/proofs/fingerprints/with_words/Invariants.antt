use Rattle.std.proofs.Common.{◌≡◌, drop, List, ℕ}
use Rattle.passes_table.specs.Fingerprints.{with_text_fingerprints}
use Rattle.passes_table.proofs.Words.{WordsSoFar}
use Rattle.passes_table.proofs.fingerprints.with_words.Given as goal

abbrev pub invariant-loop : goal.invariant-loop
invariant-loop l = WordsSoFar (λ (words : List (List ℕ)). l.all ≡ with_text_fingerprints l.fn.fingerprint words) (drop l.fn.range.start l.fn.bytes) l.count l.counter l.reader
