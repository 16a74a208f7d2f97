use Rattle.std.proofs.Common.{◌≡◌, ℕ, List, length, map, sym, ap, ◌∙◌}
use Rattle.std.proofs.lemmas.List.{length-map}
use Rattle.store_journal.specs.Payloads.{block}
use Rattle.store_codec.specs.Forms.{ProductDraft, RequestDraft, request_payload_bytes}
use Rattle.store_codec.specs.Forms.RequestPayload.{OfProduct, OfRequest}
use Rattle.store_codec.specs.Compaction.{number_of_built}
use Rattle.store_codec.specs.RecordTables.{product_at}
use Rattle.store_table.specs.Located.{located_table}
use Rattle.store.specs.declared.plan.CompactionStep.{CompactionStep}
use Rattle.store.specs.Plans.{numbered_products, table_record_at, step_payload, with_deps}
use Rattle.store.proofs.sizes.step_size.Goals as goal

pub returns-in-OfProduct : goal.returns-in-OfProduct
returns-in-OfProduct c = λ numbers.
    let there = located_table c.args.held.now.segments c.args.table.now in
    c.product_size.ensures
    ∙ ap (λ (d : ProductDraft). length (block (request_payload_bytes (OfProduct d)))) c.product_parts.ensures.is
    ∙ ap (λ (s : CompactionStep). length (block (request_payload_bytes (step_payload there numbers s)))) (sym c.in-OfProduct.is)

pub returns-in-OfRequest : goal.returns-in-OfRequest
returns-in-OfRequest c = λ numbers.
    let there = located_table c.args.held.now.segments c.args.table.now in
    let kept = table_record_at there.records c.in-OfRequest.step.row in
    let deps : List ℕ = map (number_of_built (numbered_products there numbers)) kept.asked.below in
    let count : length (map (number_of_built (numbered_products there numbers)) kept.asked.below) ≡ c.len.result =
    length-map kept.asked.below (number_of_built (numbered_products there numbers)) ∙ sym (ap length c.deps_of.ensures.below) ∙ length-map c.deps_of.result (product_at there.products) ∙ sym c.len.ensures in
    c.request_size.ensures kept.asked.command deps c.request_parts.ensures.words count
    ∙ ap (λ (d : RequestDraft). length (block (request_payload_bytes (OfRequest (with_deps d deps))))) c.request_parts.ensures.is
    ∙ ap (λ (s : CompactionStep). length (block (request_payload_bytes (step_payload there numbers s)))) (sym c.in-OfRequest.is)
