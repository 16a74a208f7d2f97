use Rattle.std.proofs.Common.{◌≡◌, ℕ, List, Some, sym, ap, subst, ◌∙◌}
use Rattle.store_codec.specs.Forms.{RequestDraft}
use Rattle.store_codec.specs.Forms.RequestPayload.{OfRequest}
use Rattle.store_codec.specs.Ranges.{request_in_ranges}
use Rattle.store_codec.specs.RecordTables.{IsRequest, RecordTable, drafted_record, record_table_of}
use Rattle.store_table.specs.Checked.{AreTextNumbers, IsNameNumber}
use Rattle.store_table.specs.Located.{located_table, located_texts}
use Rattle.store.specs.Additions.{AreRefs, IsRequestOver, SpellsRequest, asked_draft}
use Rattle.store.specs.Held.{HeldState}
use Rattle.store.proofs.Asked.{recorded, request}
use Rattle.store.proofs.loaded.LoadedStore.next_over.Goals as goal

pub returns-clause-adds : goal.returns-clause-adds
returns-clause-adds c =
    let over : IsRequestOver (record_table_of c.args.self.now.payloads) c.args.entry.now c.args.deps.now c.args.artefact.now = record { sizes = c.requires.over.sizes; there = c.requires.over.there; apart = c.requires.over.apart; others = c.requires.over.others } in
    let draft : RequestDraft = asked_draft c.args.entry.now c.text_refs-refs.result.source c.args.deps.now c.text_refs-refs.result.known c.args.artefact.now in
    let spells : SpellsRequest draft c.in_ok-segment.field-0 = c.in_ok-segment.ensures in
    let same : request_in_ranges c.in_ok-segment.field-0.segment c.in_ok-segment.field-0.draft ≡ draft = spells.parts in
    let whole : located_table c.self.inside.held.segments c.self.inside.table ≡ record_table_of c.args.self.now.payloads = c.self.invariant.is ∙ ap (λ (s : HeldState). record_table_of s.payloads) c.self.view_is in
    let told : AreRefs (located_texts c.self.inside.held.segments c.self.inside.table.texts) c.bytes.result.now c.args.artefact.now c.text_refs-refs.result = record { source = c.text_refs-refs.ensures.source; known = c.text_refs-refs.ensures.known; source_fits = c.text_refs-refs.ensures.source_fits; known_fits = c.text_refs-refs.ensures.known_fits; text_is = c.text_refs-refs.ensures.text_is; artefact_is = c.text_refs-refs.ensures.artefact_is } in
    let texts : AreRefs (record_table_of c.args.self.now.payloads).texts c.args.entry.now.text c.args.artefact.now c.text_refs-refs.result =
    subst (λ (s : RecordTable). AreRefs s.texts c.args.entry.now.text c.args.artefact.now c.text_refs-refs.result) whole
    (subst (λ (t : List ℕ). AreRefs (located_texts c.self.inside.held.segments c.self.inside.table.texts) t c.args.artefact.now c.text_refs-refs.result) c.bytes.ensures told) in
    record {
      read = spells.read ∙ ap (λ (d : RequestDraft). Some (OfRequest d)) (sym same);
      request = subst (IsRequest (record_table_of c.args.self.now.payloads)) (sym same) (request (record_table_of c.args.self.now.payloads) c.args.entry.now c.args.deps.now c.args.artefact.now over c.text_refs-refs.result texts);
      name = subst (λ (d : RequestDraft). IsNameNumber c.args.self.now.names d.name c.args.name) (sym same) c.requires.name;
      numbers = subst (λ (d : RequestDraft). AreTextNumbers (record_table_of c.args.self.now.payloads).texts d c.text_refs-refs.result.numbers) (sym same) (record { text = texts.text_is; artefact = texts.artefact_is });
    }

pub returns-clause-is : goal.returns-clause-is
returns-clause-is c =
    let over : IsRequestOver (record_table_of c.args.self.now.payloads) c.args.entry.now c.args.deps.now c.args.artefact.now = record { sizes = c.requires.over.sizes; there = c.requires.over.there; apart = c.requires.over.apart; others = c.requires.over.others } in
    let draft : RequestDraft = asked_draft c.args.entry.now c.text_refs-refs.result.source c.args.deps.now c.text_refs-refs.result.known c.args.artefact.now in
    let spells : SpellsRequest draft c.in_ok-segment.field-0 = c.in_ok-segment.ensures in
    let same : request_in_ranges c.in_ok-segment.field-0.segment c.in_ok-segment.field-0.draft ≡ draft = spells.parts in
    let whole : located_table c.self.inside.held.segments c.self.inside.table ≡ record_table_of c.args.self.now.payloads = c.self.invariant.is ∙ ap (λ (s : HeldState). record_table_of s.payloads) c.self.view_is in
    let told : AreRefs (located_texts c.self.inside.held.segments c.self.inside.table.texts) c.bytes.result.now c.args.artefact.now c.text_refs-refs.result = record { source = c.text_refs-refs.ensures.source; known = c.text_refs-refs.ensures.known; source_fits = c.text_refs-refs.ensures.source_fits; known_fits = c.text_refs-refs.ensures.known_fits; text_is = c.text_refs-refs.ensures.text_is; artefact_is = c.text_refs-refs.ensures.artefact_is } in
    let texts : AreRefs (record_table_of c.args.self.now.payloads).texts c.args.entry.now.text c.args.artefact.now c.text_refs-refs.result =
    subst (λ (s : RecordTable). AreRefs s.texts c.args.entry.now.text c.args.artefact.now c.text_refs-refs.result) whole
    (subst (λ (t : List ℕ). AreRefs (located_texts c.self.inside.held.segments c.self.inside.table.texts) t c.args.artefact.now c.text_refs-refs.result) c.bytes.ensures told) in
    ap (drafted_record (record_table_of c.args.self.now.payloads)) same ∙ recorded (record_table_of c.args.self.now.payloads) c.args.entry.now c.args.deps.now c.args.artefact.now over c.text_refs-refs.result texts
