use Rattle.std.proofs.Common.{ap}
use Rattle.base_collections.specs.Numbers.{NumbersBelow}
use Rattle.store_table.specs.Located.{located_table}
use Rattle.store.proofs.Planned.{added_counted}
use Rattle.store.proofs.walking.add_step.Goals as goal

pub returns-clause-counted : goal.returns-clause-counted
returns-clause-counted c = λ counted.
    let there = located_table c.args.held.now.segments c.args.table.now in
    added_counted there c.args.plan.now c.add.new.self c.args.step c.step_size.result (ap (λ (set : NumbersBelow). set.numbers) c.add.ensures.products) c.in_ok-add.ensures.steps c.in_ok-add.ensures.len (c.step_size.ensures c.args.plan.now.products.numbers) counted
