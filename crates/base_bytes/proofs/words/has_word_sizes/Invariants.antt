use Rattle.std.proofs.Common.{drop}
use Rattle.base_bytes.proofs.CountedWords.{AreShort}
use Rattle.base_bytes.proofs.words.has_word_sizes.Given as goal

abbrev pub invariant-loop : goal.invariant-loop
invariant-loop l = AreShort (drop l.fn.range.start l.fn.bytes) l.count l.counter l.reader
