use Rattle.std.proofs.Common.{◌<◌, ℕ, length, ap, subst, ◌∙◌, arith}
use Rattle.std.specs.Prelude.{All, Contains}
use Rattle.std.specs.List.{fold}
use Rattle.store_codec.specs.Compaction.{compact_product}
use Rattle.store_codec.specs.RecordTables.{product_at}
use Rattle.store_table.specs.Located.{located_table}
use Rattle.store.specs.Plans.{compacted_by}
use Rattle.store.proofs.LocatedRows.{products_count}
use Rattle.store.proofs.Walked.{below_compacted, below_has, below_more, below_none}
use Rattle.store.proofs.walking.plan_below.Goals as goal

pub loop-k-init : goal.loop-k-init
loop-k-init c = below_none (located_table c.args.held.now.segments c.args.table.now) c.deps_of-deps.result c.args.plan.now c.requires.plan

pub loop-k-preserved : goal.loop-k-preserved
loop-k-preserved c =
    let there = located_table c.args.held.now.segments c.args.table.now in
    let found = c.in_ok-plan_product.ensures in
    below_more there c.deps_of-deps.result c.args.plan.now c.loop-k.plan c.plan_product.new.plan c.loop-k.k c.loop-k.invariant (omega (arith, c.loop-k-test.true, c.len-k-end.ensures)) found.plan found.more
    (subst (Contains c.plan_product.new.plan.products.numbers) c.get.ensures found.has)
    (found.kept_over ∙ ap (λ (n : ℕ). compact_product (compacted_by there c.loop-k.plan) (product_at there.products n)) c.get.ensures)
    found.counted

pub returns-clause-has : goal.returns-clause-has
returns-clause-has c =
    let there = located_table c.args.held.now.segments c.args.table.now in
    let low : All (λ dep. dep < length there.products) c.deps_of-deps.result = λ k d l. (let b = c.deps_of-deps.ensures.there k d l in omega (arith, b, products_count c.args.held.now.segments c.args.table.now c.requires.table.located)) in
    subst (All (Contains (compacted_by there c.loop-k.plan).products)) c.deps_of-deps.ensures.below
    (below_has there c.requires.table.once c.deps_of-deps.result c.args.plan.now c.loop-k.plan c.loop-k.k (omega (arith, c.loop-k-test.false, c.len-k-end.ensures)) low c.loop-k.invariant)

pub returns-clause-kept_over : goal.returns-clause-kept_over
returns-clause-kept_over c =
    let there = located_table c.args.held.now.segments c.args.table.now in
    below_compacted there c.deps_of-deps.result c.args.plan.now c.loop-k.plan c.loop-k.k (omega (arith, c.loop-k-test.false, c.len-k-end.ensures)) c.loop-k.invariant
    ∙ ap (fold compact_product (compacted_by there c.args.plan.now)) c.deps_of-deps.ensures.below
