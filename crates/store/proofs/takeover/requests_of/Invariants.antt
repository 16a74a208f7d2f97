use Rattle.std.proofs.Common.{◌≡◌, List, Some, map, take}
use Rattle.outside.specs.Records.{Record}
use Rattle.store_codec.specs.RecordTables.{record_table_of}
use Rattle.store.specs.Taking.{request_at}
use Rattle.store.proofs.takeover.requests_of.Given as goal

abbrev pub invariant-loop-number : goal.invariant-loop-number
invariant-loop-number l =
    (requests : List Record) → map (request_at l.segments.payloads l.contents) l.rows ≡ map (λ kept. Some kept) requests → (record_table_of l.held.payloads).records ≡ take l.number-index requests
