use Rattle.std.proofs.Common.{ℕ, List, length, ap, subst, arith, length-append}
use Rattle.std.proofs.lemmas.List.{length-map}
use Rattle.std.proofs.lemmas.Option.{get_or_from_slice_get, slice_get_within}
use Rattle.base_collections.specs.Numbers.{IsIndexOf}
use Rattle.store_table.specs.Located.{located_text, located_texts}
use Rattle.passes_codec.specs.Forms.ListRef.{NewList}
use Rattle.passes_table.specs.declared.lists.ListRow.{ListRow}
use Rattle.passes_table.specs.Additions.{AreRowsOf}
use Rattle.passes_table.proofs.Checks.{list_new, texts_apart}
use Rattle.passes_table.proofs.Puts.{new_row}
use Rattle.passes_table.proofs.checking.new_list.Goals as goal

pub returns-in-Some : goal.returns-in-Some
returns-in-Some c =
    let table = c.args.table.now in
    let row : ListRow = record { files = c.args.list.rows } in
    let found = subst (IsIndexOf table.lists.keys row) c.in-Some.is c.number.ensures in
    λ segments files located few are is.
    new_row segments table.names.keys (located_texts segments table.texts) table.lists.keys table.rows.items located.lists located.rows row (NewList files) is (record { rows = are.rows; are = are.are }) (c.in-Some._number, slice_get_within table.lists.keys c.in-Some._number row found, get_or_from_slice_get table.lists.keys c.in-Some._number row row found)

pub returns : goal.returns
returns c =
    let table = c.args.table.now in
    let row : ListRow = record { files = c.args.list.rows } in
    let none = subst (IsIndexOf table.lists.keys row) c.in_default.is c.number.ensures in
    λ segments files located few are.
    let texts : List (List ℕ) = located_texts segments table.texts in
    let of : AreRowsOf table.names.keys texts files row = record { rows = are.rows; are = are.are } in (
      (few, are.valid, list_new table.names.keys texts table.lists.keys files row located.names_once (texts_apart texts table.texts.index.splits located.texts.split) located.lists are.valid of none),
      record { part = of; count = omega (arith, ap length are.texts_are, length-append texts (located_texts segments c.args.list.fresh), length-map c.args.list.fresh.indices.items (located_text segments), c.len.ensures) },
    )
