use Rattle.std.proofs.Common.{◌≡◌, ℕ, List, map, get_or, Some, sym, ap, subst, ◌∙◌}
use Rattle.std.specs.Prelude.{All}
use Rattle.std.proofs.lemmas.Option.{get_or_from_slice_get}
use Rattle.base.specs.declared.file.FileName.{FileName}
use Rattle.base.specs.declared.graph.Entry.{Entry}
use Rattle.outside.specs.Records.{deps_at}
use Rattle.outside.specs.Records.{latest as latest_request}
use Rattle.store_codec.specs.RecordTables.{AreNumberedOnce, RecordTable, record_table_of}
use Rattle.store_codec.proofs.Once.{once_in_all}
use Rattle.store_table.specs.Checked.{IsNameNumber}
use Rattle.store.specs.Additions.{AreDeps, no_entry}
use Rattle.outside.specs.Records.{HasLatest}
use Rattle.store.specs.LookedUp.{AreRecordHandles, looked_up_product}
use Rattle.store.proofs.Asked.{deps_are}
use Rattle.store.proofs.Currency.{below_to, looked_up_low, looked_up_there}
use Rattle.store.proofs.loaded.LoadedStore.prepare.Goals as goal

pub looked_up_products-requires-clause-looked_up : goal.looked_up_products-requires-clause-looked_up
looked_up_products-requires-clause-looked_up c = λ k d l e.
    let table : RecordTable = record_table_of c.args.self.now.payloads in
    let once : AreNumberedOnce (record_table_of c.args.self.now.payloads) = once_in_all c.args.self.now.payloads in
    let handles : AreRecordHandles (record_table_of c.args.self.now.payloads) c.args.graph.now c.args.handles.now = record { each = c.requires.handles.each; is = c.requires.handles.is; texts = c.requires.handles.texts } in
    let deps : deps_at c.args.graph.now c.args.at ≡ c.as_slice.result.now = deps_are table c.args.graph.now c.get-entry.ensures.graph c.args.at c.get-entry.result.now c.get-entry.ensures.entry ∙ sym c.as_slice.ensures in
    let built : All (HasLatest (λ name. latest_request name (record_table_of c.args.self.now.payloads).records) c.args.graph.now) c.as_slice.result.now = subst (λ (ps : List ℕ). All (HasLatest (λ name. latest_request name (record_table_of c.args.self.now.payloads).records) c.args.graph.now) ps) deps c.requires.built in
    looked_up_there table once.products c.args.graph.now c.args.handles.now handles (get_or c.as_slice.result.now k d) (built k d l) e

pub next_request-requires-clause-name : goal.next_request-requires-clause-name
next_request-requires-clause-name c =
    let entry : get_or c.args.graph.now c.args.at no_entry ≡ c.get-entry.result.now = get_or_from_slice_get c.args.graph.now c.args.at c.get-entry.result.now no_entry c.get-entry.ensures.entry in
    let name : c.in_ok-copied.copied ≡ (get_or c.args.graph.now c.args.at no_entry).name = c.in_ok-copied.ensures ∙ sym (ap (λ (e : Entry). e.name) entry) in
    subst (λ (ns : List FileName). IsNameNumber ns (get_or c.args.graph.now c.args.at no_entry).name c.in_ok-name.name) (sym c.reserve.ensures.names) (subst (λ (n : FileName). IsNameNumber c.number_of_name.new.self.names n c.in_ok-name.name) name c.in_ok-name.ensures.named)

pub next_request-requires-clause-deps : goal.next_request-requires-clause-deps
next_request-requires-clause-deps c =
    let table : RecordTable = record_table_of c.args.self.now.payloads in
    let graph : List Entry = c.args.graph.now in
    let once : AreNumberedOnce (record_table_of c.args.self.now.payloads) = once_in_all c.args.self.now.payloads in
    let handles : AreRecordHandles (record_table_of c.args.self.now.payloads) c.args.graph.now c.args.handles.now = record { each = c.requires.handles.each; is = c.requires.handles.is; texts = c.requires.handles.texts } in
    let deps : c.as_slice.result.now ≡ deps_at c.args.graph.now c.args.at = c.as_slice.ensures ∙ sym (deps_are table c.args.graph.now c.get-entry.ensures.graph c.args.at c.get-entry.result.now c.get-entry.ensures.entry) in
    let looked_up : map (λ n. Some n) c.in_ok-deps.deps ≡ map (looked_up_product c.args.handles.now) (deps_at c.args.graph.now c.args.at) = c.in_ok-deps.ensures ∙ ap (map (looked_up_product c.args.handles.now)) deps in
    let there = looked_up_low table once.products graph c.args.handles.now handles c.in_ok-deps.deps (deps_at c.args.graph.now c.args.at) c.requires.built looked_up in
    let built = below_to table once.products graph c.args.handles.now handles c.in_ok-deps.deps (deps_at c.args.graph.now c.args.at) there c.requires.built looked_up in
    subst (λ (ps : List (List ℕ)). AreDeps (record_table_of ps) c.args.graph.now c.args.at c.in_ok-deps.deps) (sym (c.reserve.ensures.payloads ∙ c.number_of_name.ensures.payloads)) (record { there = there; built = built; latest = c.requires.built })
