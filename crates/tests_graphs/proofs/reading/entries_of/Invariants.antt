use Rattle.std.proofs.Common.{◌≡◌, ◌-◌}
use Rattle.base_bytes.specs.Reading.{many_at, counted_at}
use Rattle.base_bytes.proofs.Many.{with_prefix}
use Rattle.tests_graphs.specs.Reading.{entry_at}
use Rattle.tests_graphs.proofs.reading.entries_of.Given as goal

abbrev pub invariant-loop : goal.invariant-loop
invariant-loop l = with_prefix l.entries (many_at entry_at (l.count - l.counter) l.reader) ≡ counted_at entry_at l.fn.reader
