use Rattle.base_bytes.proofs.Ranging.{IsCounted}
use Rattle.passes_codec.specs.Forms.{file_at}
use Rattle.passes_codec.proofs.reading.files_range.Given as goal

abbrev pub invariant-loop : goal.invariant-loop
invariant-loop l = IsCounted file_at l.fn.bytes l.fn.at l.count l.counter l.next
