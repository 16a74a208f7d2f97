use Rattle.base_bytes.specs.Reading.{text_at}
use Rattle.base_bytes.proofs.Ranging.{IsCounted}
use Rattle.base_bytes.proofs.reading.words_range.Given as goal

abbrev pub invariant-loop : goal.invariant-loop
invariant-loop l = IsCounted text_at l.fn.bytes l.fn.at l.count l.counter l.next
