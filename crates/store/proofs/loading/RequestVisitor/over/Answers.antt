use Rattle.std.proofs.Common.{sym, ap, ◌∙◌}
use Rattle.store_codec.specs.RecordTables.{record_table_of}
use Rattle.store_table.proofs.Takes.{table_none}
use Rattle.store.proofs.loading.RequestVisitor.over.Goals as goal

pub invariant_of-result : goal.invariant_of-result
invariant_of-result c = λ _. record {
  are = c.new.ensures.are c.over.result.segments;
  is = c.new.ensures.is c.over.result.segments ∙ sym table_none ∙ ap record_table_of (sym c.over.ensures.payloads);
}
