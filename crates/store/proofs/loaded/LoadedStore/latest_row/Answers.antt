use Rattle.std.proofs.Common.{List, ℕ, None, ap, subst, ◌∙◌}
use Rattle.base_collections.specs.Numbers.{IsIndexOf}
use Rattle.store_codec.specs.RecordTables.{RecordTable, record_table_of}
use Rattle.store_table.specs.Located.{located_texts, row_products}
use Rattle.store.specs.Held.{HeldState, IsLatestRow}
use Rattle.store.proofs.Latest.{latest_absent, latest_is}
use Rattle.store.proofs.loaded.LoadedStore.latest_row.Goals as goal

pub returns-in_default : goal.returns-in_default
returns-in_default c =
    let segments = c.self.inside.held.segments in
    let table = c.self.inside.table in
    let texts : List (List ℕ) = located_texts segments table.texts in
    let are = c.self.invariant.are in
    let here = latest_absent segments table.names.keys texts table.products.keys (row_products table.names.keys texts table.products.keys) table.rows.items are.names_once are.rows.rows_are c.args.name.now (subst (IsIndexOf table.names.keys c.args.name.now) c.in_default.is c.number.ensures) in
    subst (λ (s : RecordTable). IsLatestRow s.records c.args.name.now None) (c.self.invariant.is ∙ ap (λ (s : HeldState). record_table_of s.payloads) c.self.view_is) here

pub returns : goal.returns
returns c =
    let segments = c.self.inside.held.segments in
    let table = c.self.inside.table in
    let texts : List (List ℕ) = located_texts segments table.texts in
    let are = c.self.invariant.are in
    let here = latest_is segments table.names.keys texts table.products.keys (row_products table.names.keys texts table.products.keys) table.rows.items are.names_once are.rows.rows_are c.args.name.now table.latest.fingerprints c.in-Some.number c.last.result are.latest (subst (IsIndexOf table.names.keys c.args.name.now) c.in-Some.is c.number.ensures) c.last.ensures in
    subst (λ (s : RecordTable). IsLatestRow s.records c.args.name.now c.last.result) (c.self.invariant.is ∙ ap (λ (s : HeldState). record_table_of s.payloads) c.self.view_is) here
