use Rattle.std.proofs.Common.{ℕ, List, sym, ◌∙◌}
use Rattle.store_table.specs.Located.{located_texts}
use Rattle.passes_table.proofs.Checks.{texts_apart}
use Rattle.passes_table.proofs.loaded.LoadedPasses.of.Goals as goal

pub invariant_of-result : goal.invariant_of-result
invariant_of-result c =
    let segments : List (List ℕ) = c.of-held.result.segments in
    let table = c.in_ok-table.table in
    let texts : List (List ℕ) = located_texts segments table.texts in
    record {
      whole = c.of-held.ensures.segments ∙ sym c.of-held.ensures.payloads;
      are = record { are = c.in_ok-table.ensures.are; is = c.in_ok-table.ensures.is };
      pending = c.new.ensures.is table.names.keys texts (texts_apart texts table.texts.index.splits c.in_ok-table.ensures.are.texts.split);
    }
