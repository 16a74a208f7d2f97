use Rattle.std.proofs.Common.{◌≡◌, ◌<◌, ◌+◌, length, drop, true, false, sym, ◌∙◌, arith}
use Rattle.outside.specs.Records.{is_replaced as is_overtaken}
use Rattle.store_table.specs.Located.{located_table}
use Rattle.store.specs.Plans.{compacted_by, table_record_at}
use Rattle.store.proofs.LocatedRows.{records_count}
use Rattle.store.proofs.Walked.{next_latest, next_overtaken, not_false, not_true}
use Rattle.store.proofs.walking.plan_next.Goals as goal

pub returns-then-not-is_latest-clause-kept_over : goal.returns-then-not-is_latest-clause-kept_over
returns-then-not-is_latest-clause-kept_over c =
    let there = located_table c.args.held.now.segments c.args.table.now in
    let low : c.args.number < length there.records = omega (arith, c.requires.number, records_count c.args.held.now.segments c.args.table.now c.requires.table.located) in
    let is : c.is_latest.result ≡ false = c.if-not-is_latest.true in
    next_overtaken there.records c.args.number (compacted_by there c.args.plan.now) low (not_false (is_overtaken (drop (c.args.number + 1) there.records) (table_record_at there.records c.args.number)) (sym c.is_latest.ensures ∙ is))

pub returns-clause-kept_over : goal.returns-clause-kept_over
returns-clause-kept_over c =
    let there = located_table c.args.held.now.segments c.args.table.now in
    let low : c.args.number < length there.records = omega (arith, c.requires.number, records_count c.args.held.now.segments c.args.table.now c.requires.table.located) in
    let is : c.is_latest.result ≡ true = c.if-not-is_latest.false in
    next_latest there.records c.args.number (compacted_by there c.args.plan.now) (compacted_by there c.plan_request.new.plan) low (not_true (is_overtaken (drop (c.args.number + 1) there.records) (table_record_at there.records c.args.number)) (sym c.is_latest.ensures ∙ is)) c.in_ok-plan_request.ensures.kept_over
