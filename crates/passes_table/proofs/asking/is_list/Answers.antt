use Rattle.std.proofs.Common.{◌≡◌, ℕ, List, [], map, get_or, refl, sym, ap, ◌∙◌, arith}
use Rattle.std.proofs.lemmas.List.{get_or-map}
use Rattle.std.proofs.lemmas.Option.{get_or_from_slice_get, slice_get_within}
use Rattle.base.specs.declared.file.FileName.{FileName}
use Rattle.store_table.specs.Located.{located_texts, row_products}
use Rattle.store_table.specs.declared.products.ProductRow.{ProductRow}
use Rattle.store_table.proofs.Keeping.{keeps_more, keeps_self, products_still}
use Rattle.passes_table.specs.declared.lists.ListRow.{ListRow}
use Rattle.passes_table.specs.ListRows.{list_rows_decide}
use Rattle.passes_table.specs.Located.{listed_files}
use Rattle.passes_table.specs.Pending.{all_texts, fresh_in}
use Rattle.passes_table.proofs.Checks.{list_rows_in, rows_same}
use Rattle.passes_table.proofs.asking.is_list.Goals as goal

pub returns : goal.returns
returns c =
    let table = c.args.table.now in
    let list = c.args.list.now in
    let key : ListRow = c.key.result.now in
    let names : List FileName = table.names.keys in
    let low = slice_get_within table.lists.keys c.args.number key c.key.ensures in
    λ segments located pending.
    let texts : List (List ℕ) = located_texts segments table.texts in
    let all : List (List ℕ) = all_texts texts list in
    let keeps = keeps_more texts (fresh_in list.fresh) all refl in
    let key_at : get_or table.lists.keys c.args.number key ≡ key = get_or_from_slice_get table.lists.keys c.args.number key key c.key.ensures in
    let here : get_or (map (listed_files names texts) table.lists.keys) c.args.number [] ≡ listed_files names texts key = get_or-map (listed_files names texts) table.lists.keys c.args.number key [] low ∙ ap (listed_files names texts) key_at in
    let key_is = list_rows_in names texts table.lists.keys located.lists c.args.number key low key_at in
    let more : row_products names all key.files ≡ row_products names texts key.files = products_still names names texts all key.files (keeps_self names) keeps key_is in (
      λ t. here ∙ sym more ∙ ap (λ (l : ListRow). row_products names all l.files) ((list_rows_decide key list.row).0 (sym c.eq.ensures ∙ t)),
      λ e. c.eq.ensures ∙ (list_rows_decide key list.row).1 (ap (λ (rs : List ProductRow). record { files = rs }) (rows_same names all located.names_once pending.apart key.files list.row.files (λ i d l. (let r = key_is i d l in record { name = r.name; text = omega (arith, r.text, keeps.longer) })) pending.rows (more ∙ sym here ∙ e))),
    )
