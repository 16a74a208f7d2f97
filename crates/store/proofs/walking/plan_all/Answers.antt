use Rattle.std.proofs.Common.{◌≤◌, length, arith}
use Rattle.store_table.specs.Located.{located_table}
use Rattle.store.proofs.LocatedRows.{products_count, records_count, texts_count}
use Rattle.store.proofs.Walked.{walked_latest, walks_next, walks_none}
use Rattle.store.proofs.walking.plan_all.Goals as goal

pub loop-number-init : goal.loop-number-init
loop-number-init c =
    let payloads = c.args.held.now.segments in
    let table = c.args.table.now in
    let made = c.in_ok-plan.ensures in
    walks_none (located_table payloads table) c.in_ok-plan.plan (omega (arith, made.products, c.len.ensures.len, products_count payloads table c.requires.table.located)) (omega (arith, made.texts, c.len-2.ensures, texts_count payloads table c.requires.table.located)) made.no_product made.no_text made.no_step made.len

pub plan_next-requires-clause-number : goal.plan_next-requires-clause-number
plan_next-requires-clause-number c = omega (arith, c.loop-number-test.true, c.len-number-end.ensures)

pub loop-number-preserved : goal.loop-number-preserved
loop-number-preserved c = walks_next (located_table c.args.held.now.segments c.args.table.now) c.loop-number.plan c.plan_next.new.plan c.loop-number.number c.loop-number.invariant c.in_ok-plan_next.ensures.plan c.in_ok-plan_next.ensures.kept_over c.in_ok-plan_next.ensures.counted

pub returns-clause-kept_over : goal.returns-clause-kept_over
returns-clause-kept_over c =
    let there = located_table c.args.held.now.segments c.args.table.now in
    let high : length there.records ≤ c.loop-number.number = omega (arith, c.loop-number-test.false, c.len-number-end.ensures, records_count c.args.held.now.segments c.args.table.now c.requires.table.located) in
    walked_latest there c.loop-number.plan c.loop-number.number high c.loop-number.invariant
