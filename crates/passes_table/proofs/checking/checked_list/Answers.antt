use Rattle.std.proofs.Common.{ℕ, List, sym, subst}
use Rattle.store_table.specs.Located.{nth_payload}
use Rattle.passes_codec.specs.Ranges.{list_in_range}
use Rattle.passes_codec.specs.declared.reading.ListRange.{ListRange}
use Rattle.passes_table.specs.Additions.{IsCheckedList}
use Rattle.passes_table.specs.Located.{located_passes}
use Rattle.passes_table.proofs.checking.checked_list.Goals as goal

pub returns-in-Known-clause-checked : goal.returns-in-Known-clause-checked
returns-in-Known-clause-checked c =
    let segments : List (List ℕ) = c.args.held.now.segments in
    let table = c.args.table.now in
    subst (λ (l : ListRange). IsCheckedList (located_passes segments table) table.names.keys (list_in_range (nth_payload segments c.args.at) l) c.known_list.result) (sym c.in-Known.is) (c.known_list.ensures segments)
