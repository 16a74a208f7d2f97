use Rattle.std.proofs.Common.{◌≡◌, ◌-◌, drop, take}
use Rattle.base_bytes.specs.Reading.{counted_at, many_at, text_at}
use Rattle.base_bytes.proofs.Many.{with_prefix}
use Rattle.base_bytes.proofs.words.has_words.Given as goal

abbrev pub invariant-loop-word : goal.invariant-loop-word
invariant-loop-word l = with_prefix (take l.word-index l.words) (many_at text_at (l.count - l.word-index) l.reader) ≡ counted_at text_at (drop l.fn.range.start l.fn.bytes)
