use Rattle.store_table.specs.Located.{located_table}
use Rattle.store.proofs.Owned.{request_compacted, request_counted, request_plan, request_step, row_of}
use Rattle.store.proofs.walking.plan_own.Goals as goal

pub add_step-requires-clause-plan : goal.add_step-requires-clause-plan
add_step-requires-clause-plan c =
    let of = row_of c.args.held.now.segments c.args.table.now c.requires.table.located c.args.number c.requires.number c.index.result.now c.index.ensures in
    request_plan (located_table c.args.held.now.segments c.args.table.now) c.requires.table.once c.args.table.now.products.keys c.index.result.now c.args.number of c.args.plan.now c.take_request.new.plan c.in_ok-step.step c.requires.plan c.in_ok-step.ensures c.requires.below

pub add_step-requires-clause-step : goal.add_step-requires-clause-step
add_step-requires-clause-step c =
    let of = row_of c.args.held.now.segments c.args.table.now c.requires.table.located c.args.number c.requires.number c.index.result.now c.index.ensures in
    request_step (located_table c.args.held.now.segments c.args.table.now) c.requires.table.once c.args.table.now.products.keys c.index.result.now c.args.number of c.args.plan.now c.take_request.new.plan c.in_ok-step.step c.requires.plan c.in_ok-step.ensures c.requires.below

pub returns-clause-kept_over : goal.returns-clause-kept_over
returns-clause-kept_over c =
    let of = row_of c.args.held.now.segments c.args.table.now c.requires.table.located c.args.number c.requires.number c.index.result.now c.index.ensures in
    request_compacted (located_table c.args.held.now.segments c.args.table.now) c.requires.table.once c.args.table.now.products.keys c.index.result.now c.args.number of c.args.plan.now c.take_request.new.plan c.in_ok-step.step c.requires.plan c.in_ok-step.ensures c.requires.below c.add_step.new.plan c.in_ok-add_step.ensures.kept_over

pub returns-clause-counted : goal.returns-clause-counted
returns-clause-counted c = λ counted.
    let of = row_of c.args.held.now.segments c.args.table.now c.requires.table.located c.args.number c.requires.number c.index.result.now c.index.ensures in
    c.in_ok-add_step.ensures.counted (request_counted (located_table c.args.held.now.segments c.args.table.now) c.requires.table.once c.args.table.now.products.keys c.index.result.now c.args.number of c.args.plan.now c.take_request.new.plan c.in_ok-step.step c.requires.plan c.in_ok-step.ensures c.requires.below counted)
