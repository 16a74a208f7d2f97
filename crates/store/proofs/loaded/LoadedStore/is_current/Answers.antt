use Rattle.std.proofs.Common.{◌≡◌, ℕ, ◌<◌, List, length, None, Some, get_or, refl, sym, ap, subst, ◌∙◌, arith}
use Rattle.std.specs.Prelude.{All}
use Rattle.std.proofs.lemmas.List.{length-map}
use Rattle.std.proofs.lemmas.Option.{none-some, same_Some}
use Rattle.base.specs.declared.graph.Entry.{Entry}
use Rattle.outside.specs.Records.{latest as latest_request}
use Rattle.store_codec.specs.RecordTables.{AreNumberedOnce, RecordTable, record_table_of}
use Rattle.store_codec.proofs.Once.{once_in_all}
use Rattle.store_table.specs.Located.{located_table, located_texts, row_deps, row_product, row_products, row_record}
use Rattle.store.specs.Held.{HeldState}
use Rattle.outside.specs.Records.{IsRecorded as IsCurrentLatest, HasLatest}
use Rattle.store.specs.LookedUp.{AreRecordHandles}
use Rattle.store.proofs.Currency.{built_from, is_command_within_limits, fits_deps, fits_text, fits_to}
use Rattle.store.proofs.Here.{command_some, deps_low, record_at, row_is, handle_here, text_here}
use Rattle.store.proofs.loaded.LoadedStore.is_current.Goals as goal

pub returns-in_default : goal.returns-in_default
returns-in_default c =
    let entry : Entry = c.get-entry.result.now in
    let handles : AreRecordHandles (record_table_of c.args.self.now.payloads) c.args.graph.now c.args.handles.now = record { each = c.requires.handles.each; is = c.requires.handles.is; texts = c.requires.handles.texts } in
    let none = handle_here (record_table_of c.args.self.now.payloads) c.args.graph.now c.args.handles.now c.args.at c.get-entry.result.now None handles c.get-entry.ensures.entry (sym c.get.ensures ∙ c.in_default.is) in (
      λ f. absurd cc,
      λ fits.
          let same : fits.entry ≡ entry = same_Some fits.entry entry (sym fits.is_entry ∙ c.get-entry.ensures.entry) in
          absurd (none-some _ (sym none ∙ ap (λ (e : Entry). latest_request e.name (record_table_of c.args.self.now.payloads).records) (sym same) ∙ fits.is)),
    )

pub index-row-requires : goal.index-row-requires
index-row-requires c =
    let table = c.self.inside.table in
    let texts : List (List ℕ) = located_texts c.self.inside.held.segments table.texts in
    let whole : located_table c.self.inside.held.segments c.self.inside.table ≡ record_table_of c.args.self.now.payloads = c.self.invariant.is ∙ ap (λ (s : HeldState). record_table_of s.payloads) c.self.view_is in
    let handles : AreRecordHandles (record_table_of c.args.self.now.payloads) c.args.graph.now c.args.handles.now = record { each = c.requires.handles.each; is = c.requires.handles.is; texts = c.requires.handles.texts } in
    let has = handle_here (record_table_of c.args.self.now.payloads) c.args.graph.now c.args.handles.now c.args.at c.get-entry.result.now (Some c.in-Some.handle) handles c.get-entry.ensures.entry (sym c.get.ensures ∙ c.in-Some.is) in
    omega (arith, has.row, ap (λ (s : RecordTable). length s.records) whole, length-map table.rows.items (row_record c.self.inside.held.segments table.names.keys texts (row_products table.names.keys texts table.products.keys)))

pub is_asked-requires-clause-row : goal.is_asked-requires-clause-row
is_asked-requires-clause-row c =
    let table = c.self.inside.table in
    let texts : List (List ℕ) = located_texts c.self.inside.held.segments table.texts in
    let whole : located_table c.self.inside.held.segments c.self.inside.table ≡ record_table_of c.args.self.now.payloads = c.self.invariant.is ∙ ap (λ (s : HeldState). record_table_of s.payloads) c.self.view_is in
    let handles : AreRecordHandles (record_table_of c.args.self.now.payloads) c.args.graph.now c.args.handles.now = record { each = c.requires.handles.each; is = c.requires.handles.is; texts = c.requires.handles.texts } in
    let has = handle_here (record_table_of c.args.self.now.payloads) c.args.graph.now c.args.handles.now c.args.at c.get-entry.result.now (Some c.in-Some.handle) handles c.get-entry.ensures.entry (sym c.get.ensures ∙ c.in-Some.is) in
    let low : c.in-Some.handle.row < length c.self.inside.table.rows.items = omega (arith, has.row, ap (λ (s : RecordTable). length s.records) whole, length-map table.rows.items (row_record c.self.inside.held.segments table.names.keys texts (row_products table.names.keys texts table.products.keys))) in
    row_is c.self.inside.held.segments table.names.keys texts table.products.keys table.rows.items c.self.invariant.are.rows c.in-Some.handle.row c.index-row.result.now low c.index-row.ensures

pub is_asked-requires-clause-command : goal.is_asked-requires-clause-command
is_asked-requires-clause-command c = command_some c.args.graph.now c.args.at c.get-entry.result.now c.get-entry.ensures.graph c.get-entry.ensures.entry

pub is_asked-requires-clause-deps : goal.is_asked-requires-clause-deps
is_asked-requires-clause-deps c = λ k d l. (let low = deps_low c.args.graph.now c.args.at c.get-entry.result.now c.get-entry.ensures.graph c.get-entry.ensures.entry k d l in omega (arith, low, c.requires.handles.each))

pub is_asked-requires-clause-text : goal.is_asked-requires-clause-text
is_asked-requires-clause-text c = λ known.
    let segments = c.self.inside.held.segments in
    let table = c.self.inside.table in
    let texts : List (List ℕ) = located_texts c.self.inside.held.segments table.texts in
    let whole : located_table c.self.inside.held.segments c.self.inside.table ≡ record_table_of c.args.self.now.payloads = c.self.invariant.is ∙ ap (λ (s : HeldState). record_table_of s.payloads) c.self.view_is in
    let handles : AreRecordHandles (record_table_of c.args.self.now.payloads) c.args.graph.now c.args.handles.now = record { each = c.requires.handles.each; is = c.requires.handles.is; texts = c.requires.handles.texts } in
    let here : AreRecordHandles (located_table c.self.inside.held.segments c.self.inside.table) c.args.graph.now c.args.handles.now = subst (λ (s : RecordTable). AreRecordHandles s c.args.graph.now c.args.handles.now) (sym whole) handles in
    let found : get_or c.args.handles.now c.args.at None ≡ Some c.in-Some.handle = sym c.get.ensures ∙ c.in-Some.is in
    let has = handle_here (located_table c.self.inside.held.segments c.self.inside.table) c.args.graph.now c.args.handles.now c.args.at c.get-entry.result.now (Some c.in-Some.handle) here c.get-entry.ensures.entry found in
    let says = text_here (located_table c.self.inside.held.segments c.self.inside.table) c.args.graph.now c.args.handles.now c.args.at c.get-entry.result.now (Some c.in-Some.handle) here c.get-entry.ensures.entry found in
    let low : c.in-Some.handle.row < length c.self.inside.table.rows.items = omega (arith, has.row, length-map table.rows.items (row_record segments table.names.keys texts (row_products table.names.keys texts table.products.keys))) in
    says known _ (record_at segments table.names.keys texts table.products.keys table.rows.items c.self.invariant.are.rows c.in-Some.handle.row c.index-row.result.now low c.index-row.ensures)

pub returns : goal.returns
returns c =
    let segments = c.self.inside.held.segments in
    let table = c.self.inside.table in
    let texts : List (List ℕ) = located_texts c.self.inside.held.segments table.texts in
    let located : RecordTable = located_table segments table in
    let whole : located_table c.self.inside.held.segments c.self.inside.table ≡ record_table_of c.args.self.now.payloads = c.self.invariant.is ∙ ap (λ (s : HeldState). record_table_of s.payloads) c.self.view_is in
    let graph : List Entry = c.args.graph.now in
    let entry : Entry = c.get-entry.result.now in
    let row = c.index-row.result.now in
    let handles : AreRecordHandles (record_table_of c.args.self.now.payloads) c.args.graph.now c.args.handles.now = record { each = c.requires.handles.each; is = c.requires.handles.is; texts = c.requires.handles.texts } in
    let here : AreRecordHandles (located_table c.self.inside.held.segments c.self.inside.table) c.args.graph.now c.args.handles.now = subst (λ (s : RecordTable). AreRecordHandles s c.args.graph.now c.args.handles.now) (sym whole) handles in
    let has = handle_here located graph c.args.handles.now c.args.at entry (Some c.in-Some.handle) here c.get-entry.ensures.entry (sym c.get.ensures ∙ c.in-Some.is) in
    let low : c.in-Some.handle.row < length c.self.inside.table.rows.items = omega (arith, has.row, length-map table.rows.items (row_record segments table.names.keys texts (row_products table.names.keys texts table.products.keys))) in
    let is = row_is segments table.names.keys texts table.products.keys table.rows.items c.self.invariant.are.rows c.in-Some.handle.row c.index-row.result.now low c.index-row.ensures in
    let kept = row_record segments table.names.keys texts (row_products table.names.keys texts table.products.keys) c.index-row.result.now in
    let latest = has.latest ∙ record_at segments table.names.keys texts table.products.keys table.rows.items c.self.invariant.are.rows c.in-Some.handle.row c.index-row.result.now low c.index-row.ensures in
    let once : AreNumberedOnce (located_table c.self.inside.held.segments c.self.inside.table) = subst AreNumberedOnce (sym c.self.invariant.is) (once_in_all c.self.inside.held.payloads) in
    let there : All (λ n. n < length located.products) (row_deps segments c.index-row.result.now) = λ k d l. (let b = is.deps k d l in omega (arith, b, length-map table.products.keys (row_product table.names.keys texts))) in
    let deps = deps_low graph c.args.at entry c.get-entry.ensures.graph c.get-entry.ensures.entry in (
      λ e.
          let asked = c.is_asked.ensures.0 e in
          let built = built_from located once.products graph c.args.handles.now here (row_deps segments c.index-row.result.now) entry.deps deps asked.deps in
          subst (λ (s : RecordTable). IsCurrentLatest (λ name. latest_request name s.records) graph c.args.at) whole
          (fits_to located once.products graph c.args.handles.now here c.args.at entry c.get-entry.ensures.entry kept latest (row_deps segments c.index-row.result.now) there refl built asked.words asked.text asked.deps),
      λ f.
          let fits = subst (λ (s : RecordTable). IsCurrentLatest (λ name. latest_request name s.records) graph c.args.at) (sym whole) f in
          let same : fits.entry ≡ entry = same_Some fits.entry entry (sym fits.is_entry ∙ c.get-entry.ensures.entry) in
          let built : All (HasLatest (λ name. latest_request name located.records) graph) entry.deps = subst (λ (e : Entry). All (HasLatest (λ name. latest_request name located.records) graph) e.deps) same fits.built in
          c.is_asked.ensures.1 (record {
            words = is_command_within_limits located once.products graph c.args.handles.now here c.args.at entry c.get-entry.ensures.entry kept latest (row_deps segments c.index-row.result.now) there refl built fits;
            text = fits_text located once.products graph c.args.handles.now here c.args.at entry c.get-entry.ensures.entry kept latest (row_deps segments c.index-row.result.now) there refl built fits;
            deps = fits_deps located once.products graph c.args.handles.now here c.args.at entry c.get-entry.ensures.entry kept latest (row_deps segments c.index-row.result.now) there refl built fits;
          }),
    )
