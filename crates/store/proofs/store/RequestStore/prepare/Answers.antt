use Rattle.store_codec.specs.RecordTables.{record_table_of}
use Rattle.store.specs.Stored.{prepared_of}
use Rattle.store.proofs.Commits.{prepared_at}
use Rattle.store.proofs.store.RequestStore.prepare.Goals as goal

pub returns-clause-at : goal.returns-clause-at
returns-clause-at c =
    let contents = record_table_of c.self.inside.held.payloads in
    let segment = c.in_ok-segment.field-0.segment in
    let addition = c.in_ok-segment.field-0.addition in
    prepared_at contents c.args.graph.now c.args.at c.args.artefact.now (prepared_of segment addition c.in_ok-segment.field-0.cut) c.requires.at c.in_ok-segment.ensures.at c.in_ok-segment.ensures.is
