use Rattle.std.proofs.Common.{ap, ◌∙◌}
use Rattle.outside.specs.Records.{latest_alone}
use Rattle.store_form_2.specs.NodeContents.{contents_of as node_contents_of}
use Rattle.store_codec.specs.Compaction.{compacted_requests}
use Rattle.store_form_2.specs.Migrating.{migrated_requests}
use Rattle.store_form_2.proofs.Requests.{names_apart}
use Rattle.store.proofs.ContentsRows.{latest_all}
use Rattle.store.proofs.takeover.taken_from.Goals as goal

pub returns-clause-is : goal.returns-clause-is
returns-clause-is c =
    c.in_ok-payloads.ensures.is
    ∙ ap compacted_requests c.in_ok-held.ensures

pub returns-clause-records : goal.returns-clause-records
returns-clause-records c =
    let records = (node_contents_of c.args.segments.now.payloads).records in
    c.in_ok-payloads.ensures.records
    ∙ ap latest_alone c.in_ok-held.ensures
    ∙ latest_all (migrated_requests records) (names_apart records)
