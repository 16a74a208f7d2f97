-- So far as many lists.
use Rattle.std.proofs.Common.{◌≡◌, length}
use Rattle.vhdl_scope.specs.Work.{AreReaders}
use Rattle.vhdl_scope.proofs.work.no_readers.Given as goal

abbrev pub invariant-loop : goal.invariant-loop
invariant-loop l = record {
  each : length l.readers.items ≡ l.counter;
  row_indices : AreReaders l.row_indices l.readers.items;
}
