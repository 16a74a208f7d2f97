use Rattle.std.proofs.Common.{◌≡◌, ℕ, List, map, sym, ap, subst, ◌∙◌}
use Rattle.std.proofs.lemmas.Option.{same_Some}
use Rattle.base.specs.declared.graph.BuiltFile.{BuiltFile}
use Rattle.base.specs.declared.graph.Entry.{Entry}
use Rattle.outside.specs.Records.{asked_of, latest as latest_request, latest_built}
use Rattle.store_codec.specs.Ranges.{request_in_ranges}
use Rattle.store_codec.specs.RecordTables.{RecordTable, drafted_record, product_at, record_table_of}
use Rattle.store.specs.Additions.{AreDeps, IsRequestOver}
use Rattle.store.proofs.Asked.{below, over}
use Rattle.store.proofs.loaded.LoadedStore.next_request.Goals as goal

pub next_over-requires-clause-over : goal.next_over-requires-clause-over
next_over-requires-clause-over c =
    let table : RecordTable = record_table_of c.args.self.now.payloads in
    let are : AreDeps (record_table_of c.args.self.now.payloads) c.args.graph.now c.args.at c.args.deps.now = record { there = c.requires.deps.there; built = c.requires.deps.built; latest = c.requires.deps.latest } in
    let is : IsRequestOver (record_table_of c.args.self.now.payloads) c.get-entry.result.now c.args.deps.now c.args.artefact.now = over table c.args.graph.now c.get-entry.ensures.graph c.args.at c.get-entry.result.now c.get-entry.ensures.entry c.args.deps.now are c.args.artefact.now c.requires.artefact in
    subst (λ (bs : List ℕ). IsRequestOver (record_table_of c.args.self.now.payloads) c.get-entry.result.now c.as_slice.result.now bs) (sym c.bytes.ensures)
    (subst (λ (ds : List ℕ). IsRequestOver (record_table_of c.args.self.now.payloads) c.get-entry.result.now ds c.args.artefact.now) (sym c.as_slice.ensures) is)

pub returns-clause-is : goal.returns-clause-is
returns-clause-is c = λ other found.
    let table : RecordTable = record_table_of c.args.self.now.payloads in
    let entry : Entry = c.get-entry.result.now in
    let are : AreDeps (record_table_of c.args.self.now.payloads) c.args.graph.now c.args.at c.args.deps.now = record { there = c.requires.deps.there; built = c.requires.deps.built; latest = c.requires.deps.latest } in
    let is : drafted_record (record_table_of c.args.self.now.payloads) (request_in_ranges c.in_ok-next.next.segment c.in_ok-next.next.addition.draft) ≡ record { asked = asked_of c.get-entry.result.now (map (latest_built (λ name. latest_request name (record_table_of c.args.self.now.payloads).records) c.args.graph.now) c.get-entry.result.now.deps); artefact = c.args.artefact.now } =
    c.in_ok-next.ensures.is
    ∙ ap (λ (ds : List ℕ). record { asked = asked_of entry (map (product_at table.products) ds); artefact = c.bytes.result.now }) c.as_slice.ensures
    ∙ ap (λ (bs : List ℕ). record { asked = asked_of entry (map (product_at table.products) c.args.deps.now); artefact = bs }) c.bytes.ensures
    ∙ ap (λ (built : List BuiltFile). record { asked = asked_of entry built; artefact = c.args.artefact.now }) (below table c.args.graph.now c.get-entry.ensures.graph c.args.at entry c.get-entry.ensures.entry c.args.deps.now are) in
    subst (λ (e : Entry). drafted_record (record_table_of c.args.self.now.payloads) (request_in_ranges c.in_ok-next.next.segment c.in_ok-next.next.addition.draft) ≡ record { asked = asked_of e (map (latest_built (λ name. latest_request name (record_table_of c.args.self.now.payloads).records) c.args.graph.now) e.deps); artefact = c.args.artefact.now }) (same_Some c.get-entry.result.now other (sym c.get-entry.ensures.entry ∙ found)) is
