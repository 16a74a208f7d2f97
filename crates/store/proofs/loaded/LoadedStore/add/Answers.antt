use Rattle.std.proofs.Common.{◌≡◌, ℕ, List, [], ◌∷◌, ◌++◌, ap, ◌∙◌}
use Rattle.outside.specs.Records.{Record as RequestRecord}
use Rattle.store_codec.specs.RecordTables.{RecordTable, record_table_of}
use Rattle.store.specs.Additions.{record_over}
use Rattle.store.specs.Held.{HeldState}
use Rattle.store.proofs.Adding.{adds_table}
use Rattle.store.proofs.loaded.LoadedStore.add.Goals as goal

pub returns : goal.returns
returns c =
    let before : List (List ℕ) = c.reserve.new.self.payloads in
    let same : c.reserve.new.self.payloads ≡ c.args.self.now.payloads = c.reserve.ensures.payloads ∙ c.number_of_name.ensures.payloads in
    let held : c.self.inside.held.payloads ≡ c.reserve.new.self.payloads = ap (λ (s : HeldState). s.payloads) c.self.view_is in
    let all : c.put_held.new.held.payloads ≡ c.reserve.new.self.payloads ++ c.in_ok-segment.field-0.segment ∷ [] =
    c.put_held.ensures.payloads ∙ ap (λ (ps : List (List ℕ)). ps ++ c.in_ok-segment.field-0.segment ∷ []) held in
    ap (λ (ps : List (List ℕ)). (record_table_of ps).records) all
    ∙ ap (λ (s : RecordTable). s.records) (adds_table before c.reserve.new.self.names c.in_ok-segment.field-0.segment c.in_ok-segment.field-0.addition c.in_ok-segment.ensures.adds)
    ∙ ap (λ (r : RequestRecord). (record_table_of c.reserve.new.self.payloads).records ++ r ∷ []) c.in_ok-segment.ensures.is
    ∙ ap (λ (ps : List (List ℕ)). (record_table_of ps).records ++ record_over (record_table_of ps) c.args.entry.now c.args.deps.now c.args.artefact.now ∷ []) same
