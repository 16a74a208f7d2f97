use Rattle.std.proofs.Common.{◌≡◌, ℕ, ◌<◌, length, None, get_or}
use Rattle.base.specs.declared.graph.Entry.{Entry}
use Rattle.store_codec.specs.RecordTables.{record_table_of}
use Rattle.store.specs.LookedUp.{HasTextSaid, IsRecordHandle}
use Rattle.store.proofs.loaded.LoadedStore.handles_in.Given as goal

abbrev pub invariant-loop-at : goal.invariant-loop-at
invariant-loop-at l = record {
  size : length l.handles ≡ l.at;
  is : (k : ℕ) (other : Entry) → k < l.at → IsRecordHandle (record_table_of l.self.payloads) (get_or l.graph k other).name (get_or l.handles k None);
  texts : (k : ℕ) (other : Entry) → k < l.at → HasTextSaid (record_table_of l.self.payloads) (get_or l.graph k other) (get_or l.handles k None);
}
