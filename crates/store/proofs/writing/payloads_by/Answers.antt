use Rattle.std.proofs.Common.{◌≡◌, ◌<◌, List, length, get_or, ap, subst, ◌∙◌}
use Rattle.std.proofs.lemmas.List.{get_or_default}
use Rattle.store.specs.declared.plan.CompactionStep.{CompactionStep}
use Rattle.store_table.specs.Located.{located_table}
use Rattle.store.proofs.Planned.{no_step}
use Rattle.store.proofs.Spelled.{written_more}
use Rattle.store.proofs.writing.payloads_by.Goals as goal

pub loop-step-preserved : goal.loop-step-preserved
loop-step-preserved c =
    let table = located_table c.args.held.now.segments c.args.table.now in
    let items = c.args.plan.now.steps.items in
    let i = c.loop-step.step-index in
    let value = c.as_slice-step-items.ensures.value in
    let step : CompactionStep = get_or c.as_slice-step-items.result.now i no_step in
    let low : i < length items = subst (λ (xs : List CompactionStep). i < length xs) value c.loop-step-test.true in
    let is : step ≡ get_or items i step = ap (λ (xs : List CompactionStep). get_or xs i no_step) value ∙ get_or_default items i no_step step low in
    written_more table c.args.plan.now.products.numbers items c.loop-step.payloads c.push.new.self c.bytes.result.now step i c.loop-step.invariant low is (c.bytes.ensures ∙ c.in_ok-payload.ensures.bytes) c.in_ok-payload.ensures.spelled c.in_ok-push.ensures.ok
