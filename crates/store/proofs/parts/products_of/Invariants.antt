use Rattle.std.proofs.Common.{◌≡◌, ◌<◌, Some, length, map, take}
use Rattle.std.specs.Prelude.{All, option_map}
use Rattle.outside.specs.Records.{built_of_record, latest}
use Rattle.store_codec.specs.RecordTables.{product_at, record_table_of}
use Rattle.store_form_2.specs.ByNumber.{named_by}
use Rattle.store.proofs.parts.products_of.Given as goal

abbrev pub invariant-loop-node : goal.invariant-loop-node
invariant-loop-node l =
    All (λ number. number < length (record_table_of l.held.payloads).products) l.numbers
    × (map (λ number. Some (product_at (record_table_of l.held.payloads).products number)) l.numbers
    ≡ map (λ node. option_map built_of_record (latest (named_by l.table.nodes node) (record_table_of l.held.payloads).records)) (take l.node-index l.nodes))
