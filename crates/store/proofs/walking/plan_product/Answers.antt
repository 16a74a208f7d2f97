use Rattle.std.proofs.Common.{◌≡◌, ◌<◌, length, true, false, sym, subst, arith}
use Rattle.std.specs.Prelude.{Contains}
use Rattle.base_collections.specs.Numbers.{NumbersBelow}
use Rattle.store_table.specs.Located.{located_table}
use Rattle.store.proofs.LocatedRows.{product_artefact, product_text_low, products_count}
use Rattle.store.proofs.Planned.{again, product_compacted, product_counted, product_has, product_plan}
use Rattle.store.proofs.walking.plan_product.Goals as goal

pub returns-then-is_planned-clause-kept_over : goal.returns-then-is_planned-clause-kept_over
returns-then-is_planned-clause-kept_over c =
    let there = located_table c.args.held.now.segments c.args.table.now in
    let low : c.args.product < length there.products = omega (arith, c.requires.product, products_count c.args.held.now.segments c.args.table.now c.requires.table.located) in
    again there c.requires.table.once c.args.plan.now c.requires.plan c.args.product low (c.is_planned.ensures.0 c.if-is_planned.true)

pub add_step-requires-clause-plan : goal.add_step-requires-clause-plan
add_step-requires-clause-plan c =
    let payloads = c.args.held.now.segments in
    let table = c.args.table.now in
    let there = located_table payloads table in
    let low : c.args.product < length there.products = omega (arith, c.requires.product, products_count payloads table c.requires.table.located) in
    product_plan there c.requires.table.once table.products.keys c.args.product low (product_text_low payloads table c.requires.table.located c.args.product c.requires.product) (product_artefact payloads table c.requires.table.located c.args.product c.requires.product) c.args.plan.now c.take_product.new.plan c.in_ok-step.step c.requires.plan c.in_ok-step.ensures
    (λ has. let one : c.is_planned.result ≡ true = c.is_planned.ensures.1 has in let zero : c.is_planned.result ≡ false = c.if-is_planned.false in absurd cc)

pub returns-clause-has : goal.returns-clause-has
returns-clause-has c =
    let payloads = c.args.held.now.segments in
    let table = c.args.table.now in
    let there = located_table payloads table in
    let low : c.args.product < length there.products = omega (arith, c.requires.product, products_count payloads table c.requires.table.located) in
    subst (λ (set : NumbersBelow). Contains set.numbers c.args.product) (sym c.in_ok-add_step.ensures.products)
    (product_has there c.requires.table.once table.products.keys c.args.product low (product_text_low payloads table c.requires.table.located c.args.product c.requires.product) (product_artefact payloads table c.requires.table.located c.args.product c.requires.product) c.args.plan.now c.take_product.new.plan c.in_ok-step.step c.requires.plan c.in_ok-step.ensures
    (λ has. let one : c.is_planned.result ≡ true = c.is_planned.ensures.1 has in let zero : c.is_planned.result ≡ false = c.if-is_planned.false in absurd cc))

pub returns-clause-kept_over : goal.returns-clause-kept_over
returns-clause-kept_over c =
    let payloads = c.args.held.now.segments in
    let table = c.args.table.now in
    let there = located_table payloads table in
    let low : c.args.product < length there.products = omega (arith, c.requires.product, products_count payloads table c.requires.table.located) in
    product_compacted there c.requires.table.once table.products.keys c.args.product low (product_text_low payloads table c.requires.table.located c.args.product c.requires.product) (product_artefact payloads table c.requires.table.located c.args.product c.requires.product) c.args.plan.now c.take_product.new.plan c.in_ok-step.step c.requires.plan c.in_ok-step.ensures
    (λ has. let one : c.is_planned.result ≡ true = c.is_planned.ensures.1 has in let zero : c.is_planned.result ≡ false = c.if-is_planned.false in absurd cc)
    c.add_step.new.plan c.in_ok-add_step.ensures.kept_over

pub returns-clause-counted : goal.returns-clause-counted
returns-clause-counted c = λ counted.
    let payloads = c.args.held.now.segments in
    let table = c.args.table.now in
    let there = located_table payloads table in
    let low : c.args.product < length there.products = omega (arith, c.requires.product, products_count payloads table c.requires.table.located) in
    c.in_ok-add_step.ensures.counted
    (product_counted there c.requires.table.once table.products.keys c.args.product low (product_text_low payloads table c.requires.table.located c.args.product c.requires.product) (product_artefact payloads table c.requires.table.located c.args.product c.requires.product) c.args.plan.now c.take_product.new.plan c.in_ok-step.step c.requires.plan c.in_ok-step.ensures
    (λ has. let one : c.is_planned.result ≡ true = c.is_planned.ensures.1 has in let zero : c.is_planned.result ≡ false = c.if-is_planned.false in absurd cc)
    counted)
