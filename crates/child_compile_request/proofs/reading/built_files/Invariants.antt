use Rattle.std.proofs.Common.{◌≡◌, ◌-◌, length}
use Rattle.base_bytes.specs.Reading.{many_at}
use Rattle.base_bytes.proofs.Many.{with_prefix}
use Rattle.child_compile_request.specs.Reading.{built_at}
use Rattle.child_compile_request.proofs.reading.built_files.Given as goal

abbrev pub invariant-loop : goal.invariant-loop
invariant-loop l = record {
  read : with_prefix l.files (many_at built_at (l.count - l.counter) l.reader) ≡ many_at built_at l.count l.fn.reader;
  few : length l.files ≡ l.counter;
}
