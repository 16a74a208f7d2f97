use Rattle.std.proofs.Common.{◌≡◌, ◌-◌}
use Rattle.base_bytes.specs.Reading.{text_at, many_at, counted_at}
use Rattle.base_bytes.proofs.Many.{with_prefix}
use Rattle.base_bytes.proofs.copying.read_words.Given as goal

abbrev pub invariant-loop : goal.invariant-loop
invariant-loop l = with_prefix l.words (many_at text_at (l.count - l.counter) l.reader) ≡ counted_at text_at l.fn.reader
