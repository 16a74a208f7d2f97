use Rattle.std.proofs.Common.{ℕ, List}
use Rattle.store_table.specs.Located.{located_texts}
use Rattle.passes_table.proofs.Checks.{texts_apart}
use Rattle.passes_table.proofs.loaded.LoadedPasses.start_list.Goals as goal

pub invariant_of-self : goal.invariant_of-self
invariant_of-self c =
    let segments : List (List ℕ) = c.self.inside.held.segments in
    let table = c.self.inside.table in
    let texts : List (List ℕ) = located_texts segments table.texts in
    record {
      whole = c.self.invariant.whole;
      are = c.self.invariant.are;
      pending = c.new.ensures.is table.names.keys texts (texts_apart texts table.texts.index.splits c.self.invariant.are.are.texts.split);
    }
