use Rattle.std.proofs.Common.{◌≡◌, sym, subst}
use Rattle.std.specs.Prelude.{IfOk}
use Rattle.store_codec.specs.Forms.{request_payload_bytes}
use Rattle.store_table.specs.Located.{located_table}
use Rattle.store.specs.declared.plan.CompactionStep.{CompactionStep}
use Rattle.store.specs.Plans.{step_payload}
use Rattle.store.proofs.writing.payload_of.Goals as goal

pub returns-in-OfProduct-clause-bytes : goal.returns-in-OfProduct-clause-bytes
returns-in-OfProduct-clause-bytes c =
    let there = located_table c.args.held.now.segments c.args.table.now in
    subst (λ (s : CompactionStep). IfOk c.payload_of_product.result (λ bytes. bytes ≡ request_payload_bytes (step_payload there c.args.products.now.numbers s))) (sym c.in-OfProduct.is) (c.payload_of_product.ensures.bytes c.args.products.now.numbers)
