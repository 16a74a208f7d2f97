use Rattle.std.proofs.Common.{◌≡◌, ℕ, List, Some, sym, subst}
use Rattle.std.specs.Prelude.{IfOk, slice_get}
use Rattle.base.specs.declared.graph.Entry.{Entry}
use Rattle.outside.specs.Records.{asked_now}
use Rattle.store.specs.Held.{latest_held}
use Rattle.store.specs.Stored.{prepared_record}
use Rattle.store.proofs.records.RequestStoreRecords.prepare.Goals as goal

pub returns-clause-record : goal.returns-clause-record
returns-clause-record c =
    subst (λ (ps : List (List ℕ)). IfOk c.prepare.result (λ prepared. (entry : Entry) → slice_get c.args.graph.now c.args.at ≡ Some entry → prepared_record ps prepared ≡ record { asked = asked_now (latest_held c.args.self.now.held.payloads) c.args.graph.now entry; artefact = c.args.artefact.now }))
    (sym c.prepare.ensures.payloads) c.prepare.ensures.asked
