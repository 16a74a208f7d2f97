use Rattle.std.proofs.Common.{◌≡◌, ◌<◌, ℕ, List, [], length, map, get_or, sym, ap, ◌∙◌, arith}
use Rattle.std.proofs.lemmas.List.{length-map}
use Rattle.std.proofs.lemmas.Option.{get_or_from_slice_get}
use Rattle.base_bytes.specs.Ranges.{counted_numbers}
use Rattle.store_codec.specs.RecordTables.{product_at}
use Rattle.store_table.specs.Located.{nth_payload, located_table, row_deps}
use Rattle.store_table.proofs.Puts.{no_record}
use Rattle.store.specs.Plans.{blank_request, table_record_at}
use Rattle.store.proofs.LocatedRows.{record_below, records_count, row_here}
use Rattle.store.proofs.rows.deps_of.Goals as goal

deps_are : (c : goal.After-numbers_of) → c.numbers_of.result ≡ row_deps c.args.held.now.segments (get_or c.args.table.now.rows.items c.args.number no_record)
deps_are c =
    let payloads = c.args.held.now.segments in
    let row = c.index-row.result.now in
    let here : c.index-row.result.now ≡ get_or c.args.table.now.rows.items c.args.number no_record = row_here payloads c.args.table.now c.requires.table.located c.args.number c.requires.number row c.index-row.ensures in
    let bytes : c.get.result.now ≡ nth_payload payloads row.payload = sym (get_or_from_slice_get payloads row.payload c.get.result.now [] c.get.ensures) in
    c.numbers_of.ensures ∙ ap (λ (bs : List ℕ). counted_numbers bs row.deps) bytes ∙ ap (row_deps payloads) here

below_are : (c : goal.After-numbers_of) → map (product_at (located_table c.args.held.now.segments c.args.table.now).products) c.numbers_of.result ≡ (table_record_at (located_table c.args.held.now.segments c.args.table.now).records c.args.number).asked.below
below_are c =
    ap (map (product_at (located_table c.args.held.now.segments c.args.table.now).products)) (deps_are c)
    ∙ sym (record_below c.args.held.now.segments c.args.table.now c.requires.table.located c.args.number c.requires.number)

pub returns-clause-few : goal.returns-clause-few
returns-clause-few c =
    let there = located_table c.args.held.now.segments c.args.table.now in
    let low : c.args.number < length there.records = omega (arith, c.requires.number, records_count c.args.held.now.segments c.args.table.now c.requires.table.located) in
    let kept = c.requires.table.kept.records c.args.number blank_request low in
    omega (arith, kept.few, ap length (below_are c), length-map c.numbers_of.result (product_at there.products))

pub returns-clause-below : goal.returns-clause-below
returns-clause-below c = below_are c
