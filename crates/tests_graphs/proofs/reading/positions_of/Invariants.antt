use Rattle.std.proofs.Common.{◌≡◌, ◌-◌}
use Rattle.std.specs.Int.{w32}
use Rattle.base_bytes.specs.Reading.{number_at, many_at, counted_at}
use Rattle.base_bytes.proofs.Many.{with_prefix}
use Rattle.tests_graphs.proofs.reading.positions_of.Given as goal

abbrev pub invariant-loop : goal.invariant-loop
invariant-loop l = with_prefix l.positions (many_at (number_at w32) (l.count - l.counter) l.reader) ≡ counted_at (number_at w32) l.fn.reader
