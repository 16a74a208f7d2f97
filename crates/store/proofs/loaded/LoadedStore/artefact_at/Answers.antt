use Rattle.std.proofs.Common.{ℕ, List, get_or, Some, Option, sym, ap, subst, ◌∙◌}
use Rattle.std.specs.Option.{option_map}
use Rattle.std.proofs.lemmas.Option.{slice_get-get_or}
use Rattle.outside.specs.Records.{Record as RequestRecord}
use Rattle.store_codec.specs.RecordTables.{record_table_of}
use Rattle.store.specs.LookedUp.{IsRecordHandle}
use Rattle.store.proofs.Currency.{no_entry, no_kept}
use Rattle.store.proofs.loaded.LoadedStore.artefact_at.Goals as goal

pub returns-in_default : goal.returns-in_default
returns-in_default c = λ other.
    let none = subst (IsRecordHandle (record_table_of c.args.self.now.payloads) (get_or c.args.graph.now c.args.at other).name) (sym c.get.ensures ∙ c.in_default.is) (c.requires.handles.is c.args.at other c.requires.at) in
    sym (ap (λ (o : Option RequestRecord). option_map (λ kept. kept.artefact) o) none)

pub row_artefact-requires : goal.row_artefact-requires
row_artefact-requires c =
    let has = subst (IsRecordHandle (record_table_of c.args.self.now.payloads) (get_or c.args.graph.now c.args.at no_entry).name) (sym c.get.ensures ∙ c.in-Some.is) (c.requires.handles.is c.args.at no_entry c.requires.at) in
    has.row

pub returns : goal.returns
returns c = λ other.
    let records : List RequestRecord = (record_table_of c.args.self.now.payloads).records in
    let has = subst (IsRecordHandle (record_table_of c.args.self.now.payloads) (get_or c.args.graph.now c.args.at other).name) (sym c.get.ensures ∙ c.in-Some.is) (c.requires.handles.is c.args.at other c.requires.at) in
    let found = slice_get-get_or records c.in-Some.handle.row no_kept has.row in
    ap (λ (b : List ℕ). Some b) (c.row_artefact.ensures (get_or records c.in-Some.handle.row no_kept) found) ∙ sym (ap (λ (o : Option RequestRecord). option_map (λ kept. kept.artefact) o) (has.latest ∙ found))
