use Rattle.std.proofs.Common.{ℕ, List, subst}
use Rattle.store_table.specs.Located.{located_texts, nth_payload}
use Rattle.passes_codec.specs.Ranges.{list_in_range}
use Rattle.passes_table.specs.Additions.{IsListPart}
use Rattle.passes_table.specs.declared.additions.ListPart.{ListPart}
use Rattle.passes_table.specs.declared.additions.ListPart.TheVariants.{New}
use Rattle.passes_table.specs.declared.lists.ListRow.{ListRow}
use Rattle.store_table.proofs.Keeping.{keeps_self}
use Rattle.passes_table.proofs.PassRows.{pass_rows_still}
use Rattle.passes_table.proofs.Puts.{new_is, new_lists, new_more, new_row}
use Rattle.passes_table.proofs.putting.put_list.Goals as goal
use Rattle.passes_table.proofs.putting.put_list.Goals.{In-New}

is_part : (c : In-New) → IsListPart c.args.table.now.names.keys (located_texts c.args.held.now.segments c.args.table.now.texts) (list_in_range (nth_payload c.args.held.now.segments c.args.at) c.args.draft) (New c.in-New.row)
is_part c =
    let segments : List (List ℕ) = c.args.held.now.segments in
    let table = c.args.table.now in
    subst (λ (p : ListPart). IsListPart table.names.keys (located_texts segments table.texts) (list_in_range (nth_payload segments c.args.at) c.args.draft) p) c.in-New.is c.requires.part

pub put-requires-clause-new : goal.put-requires-clause-new
put-requires-clause-new c =
    let segments : List (List ℕ) = c.args.held.now.segments in
    let table = c.args.table.now in
    new_row segments table.names.keys (located_texts segments table.texts) table.lists.keys table.rows.items c.requires.table.lists c.requires.table.rows c.in-New.row (list_in_range (nth_payload segments c.args.at) c.args.draft) c.requires.valid (is_part ((goal.at.put-requires-clause-new c).In-New))

pub returns-in-New-clause-are : goal.returns-in-New-clause-are
returns-in-New-clause-are c =
    let segments : List (List ℕ) = c.args.held.now.segments in
    let table = c.args.table.now in
    let texts : List (List ℕ) = located_texts segments table.texts in
    let row : ListRow = c.in-New.row in
    let lists' : List ListRow = c.put.new.self.keys in
    record {
      texts = c.put_texts_of.ensures.are;
      lists = new_lists segments table.names.keys texts table.lists.keys table.rows.items c.requires.table.lists c.requires.table.rows row (located_texts segments c.put_texts_of.new.texts) lists' c.put.ensures (list_in_range (nth_payload segments c.args.at) c.args.draft) (is_part ((goal.at.returns-in-New-clause-are c).In-New)) c.put_texts_of.ensures.is;
      rows = pass_rows_still segments segments (keeps_self segments) table.lists.keys lists' table.rows.items (new_more segments table.names.keys texts table.lists.keys table.rows.items c.requires.table.lists c.requires.table.rows row (located_texts segments c.put_texts_of.new.texts) lists' c.put.ensures) c.requires.table.rows;
      names_once = c.requires.table.names_once;
      latest = c.requires.table.latest;
    }

pub returns-in-New-clause-is : goal.returns-in-New-clause-is
returns-in-New-clause-is c =
    let segments : List (List ℕ) = c.args.held.now.segments in
    let table = c.args.table.now in
    new_is segments table.names.keys (located_texts segments table.texts) table.lists.keys table.rows.items c.requires.table.lists c.requires.table.rows c.in-New.row (located_texts segments c.put_texts_of.new.texts) c.put.new.self.keys c.put.ensures (list_in_range (nth_payload segments c.args.at) c.args.draft) (is_part ((goal.at.returns-in-New-clause-is c).In-New)) c.put_texts_of.ensures.is
