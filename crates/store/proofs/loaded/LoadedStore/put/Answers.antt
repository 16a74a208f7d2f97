use Rattle.std.proofs.Common.{◌≡◌, ℕ, List, [], ◌∷◌, length, Some, false, refl, sym, ap, subst, ◌∙◌, arith, length-append}
use Rattle.store_codec.specs.Forms.{RequestDraft}
use Rattle.store_codec.specs.Ranges.{request_in_ranges}
use Rattle.store_codec.specs.RecordTables.{RecordTable, drafted_record, record_table_of, with_request}
use Rattle.store_table.specs.Located.{located_texts}
use Rattle.store.specs.Additions.{AddsRequest}
use Rattle.store.specs.Held.{HeldState, IsLatestRow}
use Rattle.store.specs.LookedUp.{AreRecordHandles, HasRecordHandle}
use Rattle.store.proofs.Adding.{adds_table, own_row, rows_are_records, handles_added}
use Rattle.store.proofs.Here.{handle_is}
use Rattle.store.proofs.loaded.LoadedStore.put.Goals as goal

pub index-requires : goal.index-requires
index-requires c =
    let payloads : List (List ℕ) = c.self.inside.held.payloads in
    let draft : RequestDraft = request_in_ranges c.args.segment c.args.addition.draft in
    let adds : AddsRequest c.self.inside.held.payloads c.self.inside.table.names.keys c.args.segment c.args.addition = subst (λ (s : HeldState). AddsRequest s.payloads s.names c.args.segment c.args.addition) (sym c.self.view_is) (record { read = c.requires.ready.read; request = c.requires.ready.request; name = c.requires.ready.name; numbers = c.requires.ready.numbers }) in
    let whole : record_table_of c.put_held.new.held.payloads ≡ with_request (record_table_of c.self.inside.held.payloads) (request_in_ranges c.args.segment c.args.addition.draft) = ap record_table_of c.put_held.ensures.payloads ∙ adds_table payloads c.self.inside.table.names.keys c.args.segment c.args.addition adds in
    omega (
      arith,
      c.len-row.ensures,
      rows_are_records c.self.inside.held.segments payloads c.self.inside.table c.self.invariant,
      rows_are_records c.put_held.new.held.segments c.put_held.new.held.payloads c.put_held.new.table c.put_held.ensures.is,
      ap (λ (s : RecordTable). length s.records) whole,
      length-append (record_table_of payloads).records (drafted_record (record_table_of payloads) draft ∷ []),
    )

pub returns-clause-handles : goal.returns-clause-handles
returns-clause-handles c = λ graph is are named.
    let payloads : List (List ℕ) = c.self.inside.held.payloads in
    let now : List (List ℕ) = c.put_held.new.held.segments in
    let new = c.put_held.new.table in
    let table : RecordTable = record_table_of c.self.inside.held.payloads in
    let draft : RequestDraft = request_in_ranges c.args.segment c.args.addition.draft in
    let adds : AddsRequest c.self.inside.held.payloads c.self.inside.table.names.keys c.args.segment c.args.addition = subst (λ (s : HeldState). AddsRequest s.payloads s.names c.args.segment c.args.addition) (sym c.self.view_is) (record { read = c.requires.ready.read; request = c.requires.ready.request; name = c.requires.ready.name; numbers = c.requires.ready.numbers }) in
    let whole : record_table_of c.put_held.new.held.payloads ≡ with_request (record_table_of c.self.inside.held.payloads) (request_in_ranges c.args.segment c.args.addition.draft) = ap record_table_of c.put_held.ensures.payloads ∙ adds_table payloads c.self.inside.table.names.keys c.args.segment c.args.addition adds in
    let located = c.put_held.ensures.is.is ∙ whole in
    let handles : AreRecordHandles (record_table_of c.self.inside.held.payloads) graph c.args.handles.now = subst (λ (s : HeldState). AreRecordHandles (record_table_of s.payloads) graph c.args.handles.now) (sym c.self.view_is) are in
    let at : c.len-row.result ≡ length (record_table_of c.self.inside.held.payloads).records = omega (arith, c.len-row.ensures, rows_are_records c.self.inside.held.segments payloads c.self.inside.table c.self.invariant) in
    let latest : IsLatestRow (with_request table draft).records draft.name (Some c.len-row.result) = subst (λ (n : ℕ). IsLatestRow (with_request table draft).records draft.name (Some n)) (sym at) (own_row table draft) in
    let here = handle_is now new.names.keys (located_texts now new.texts) new.products.keys new.rows.items c.put_held.ensures.is.are.rows c.len-row.result c.index.result.now (omega (arith, latest.0, rows_are_records now c.put_held.new.held.payloads new c.put_held.ensures.is, ap (λ (s : RecordTable). length s.records) whole)) c.index.ensures draft.name (subst (λ (s : RecordTable). IsLatestRow s.records draft.name (Some c.len-row.result)) (sym located) latest) in
    let has = subst (λ (s : RecordTable). HasRecordHandle s draft.name (record { row = c.len-row.result; product = c.index.result.now.product; has_text = false })) located here in
    let all = handles_added table draft graph c.args.handles.now c.args.addition.at (record { row = c.len-row.result; product = c.index.result.now.product; has_text = false }) is handles c.requires.handle refl named has in
    subst (λ (s : RecordTable). AreRecordHandles s graph c.set.new.self) (sym whole) (subst (AreRecordHandles (with_request table draft) graph) (sym c.set.ensures) all)
