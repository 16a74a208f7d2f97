use Rattle.std.proofs.Common.{◌≡◌, ℕ, List, map, ap, subst, ◌∙◌}
use Rattle.std.specs.Prelude.{All}
use Rattle.store_codec.specs.Forms.{IsSpellable, request_payload_bytes}
use Rattle.outside.specs.Records.{latest_alone as latest_requests}
use Rattle.store_codec.specs.Compaction.{CompactedSoFar, compacted_from, compacted_requests, none_compacted}
use Rattle.store_codec.specs.RecordTables.{RecordTable, record_table_of}
use Rattle.store.specs.Kept.{IsKeptRequest}
use Rattle.store.specs.Plans.{compacted_by}
use Rattle.store.proofs.KeptTables.{table_kept, to_compact}
use Rattle.store.proofs.LatestCompacted.{all-latest_requests}
use Rattle.store.proofs.Standing.{spelled_records}
use Rattle.store.proofs.writing.compacted_payloads.Goals as goal

pub payloads_by-requires-clause-table : goal.payloads_by-requires-clause-table
payloads_by-requires-clause-table c = to_compact c.args.held.now.segments c.args.held.now.payloads c.args.table.now c.requires.table c.requires.is

pub returns-clause-is : goal.returns-clause-is
unfolding compacted_requests
returns-clause-is c =
    c.in_ok-payloads.ensures.is
    ∙ ap (λ (s : RecordTable). map request_payload_bytes (compacted_by s c.args.plan.now).payloads) c.requires.is
    ∙ ap (λ (s : CompactedSoFar). map request_payload_bytes s.payloads) c.requires.plan.kept_over

pub returns-clause-records : goal.returns-clause-records
returns-clause-records c =
    let payloads = c.args.held.now.payloads in
    let latest = latest_requests (record_table_of payloads).records in
    let is : c.in_ok-payloads.payloads ≡ map request_payload_bytes (compacted_from none_compacted (latest_requests (record_table_of c.args.held.now.payloads).records)).payloads =
    c.in_ok-payloads.ensures.is
    ∙ ap (λ (s : RecordTable). map request_payload_bytes (compacted_by s c.args.plan.now).payloads) c.requires.is
    ∙ ap (λ (s : CompactedSoFar). map request_payload_bytes s.payloads) c.requires.plan.kept_over in
    let spelled : All IsSpellable (compacted_from none_compacted (latest_requests (record_table_of c.args.held.now.payloads).records)).payloads =
    subst (λ (s : CompactedSoFar). All IsSpellable s.payloads) c.requires.plan.kept_over (subst (λ (s : RecordTable). All IsSpellable (compacted_by s c.args.plan.now).payloads) c.requires.is c.in_ok-payloads.ensures.spelled) in
    ap (λ (ps : List (List ℕ)). (record_table_of ps).records) is
    ∙ spelled_records latest (all-latest_requests IsKeptRequest (record_table_of payloads).records (table_kept payloads).records) spelled
