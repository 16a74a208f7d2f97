use Rattle.store.proofs.Worded.{ArePassed}
use Rattle.store.proofs.words.words_first.Given as goal

abbrev pub invariant-loop : goal.invariant-loop
invariant-loop l = ArePassed l.fn.bytes l.count l.counter l.reader
