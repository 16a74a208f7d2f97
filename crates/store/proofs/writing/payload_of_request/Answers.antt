use Rattle.std.proofs.Common.{◌≡◌, ◌<◌, ◌^◌, ℕ, List, length, map, sym, ap, subst, ◌∙◌, arith}
use Rattle.std.specs.Prelude.{All, IfOk}
use Rattle.std.proofs.lemmas.List.{length-map}
use Rattle.store_codec.specs.Forms.{HasRequestSpelling, RequestDraft, request_payload_bytes}
use Rattle.store_codec.specs.Forms.RequestPayload.{OfRequest}
use Rattle.store_codec.specs.Compaction.{number_of_built}
use Rattle.store_table.specs.Located.{located_table}
use Rattle.store_table.specs.NumberSets.{AreNumbers}
use Rattle.store.specs.Plans.{draft_over, numbered_products, table_record_at, request_step_draft}
use Rattle.store.proofs.LocatedRows.{kept_here, products_count, records_count}
use Rattle.store.proofs.Spelled.{deps_numbered, deps_planned, if_ok, request_spelled}
use Rattle.store.proofs.writing.payload_of_request.Goals as goal

pub new_numbers-requires-clause-there : goal.new_numbers-requires-clause-there
new_numbers-requires-clause-there c =
    let payloads = c.args.held.now.segments in
    let table = c.args.table.now in
    let there = located_table payloads table in
    let count = products_count payloads table c.requires.table.located in
    let are = subst (λ (n : ℕ). AreNumbers n c.args.products.now) (sym count) c.requires.products in
    let low : All (λ dep. dep < length there.products) c.deps_of.result = λ k d l. (let b = c.deps_of.ensures.there k d l in omega (arith, b, count)) in
    deps_planned there c.requires.table.once c.args.products.now are c.deps_of.result low (table_record_at there.records c.args.step.row).asked.below c.deps_of.ensures.below c.requires.step.below

numbers_are : (c : goal.After-drop-deps-inside) → c.as_slice.result.now ≡ map (number_of_built (numbered_products (located_table c.args.held.now.segments c.args.table.now) c.args.products.now.numbers)) (table_record_at (located_table c.args.held.now.segments c.args.table.now).records c.args.step.row).asked.below
numbers_are c =
    let payloads = c.args.held.now.segments in
    let table = c.args.table.now in
    let there = located_table payloads table in
    let count = products_count payloads table c.requires.table.located in
    let are = subst (λ (n : ℕ). AreNumbers n c.args.products.now) (sym count) c.requires.products in
    let low : All (λ dep. dep < length there.products) c.deps_of.result = λ k d l. (let b = c.deps_of.ensures.there k d l in omega (arith, b, count)) in
    c.as_slice.ensures ∙ deps_numbered there c.requires.table.once c.args.products.now are c.deps_of.result low c.in_ok-deps.deps (table_record_at there.records c.args.step.row).asked.below c.deps_of.ensures.below c.in_ok-deps.ensures.are

pub returns-clause-bytes : goal.returns-clause-bytes
returns-clause-bytes c =
    let there = located_table c.args.held.now.segments c.args.table.now in
    let kept = table_record_at there.records c.args.step.row in
    subst (λ (d : RequestDraft). IfOk c.request_payload.result (λ bytes. bytes ≡ request_payload_bytes (OfRequest d))) (c.request_parts.ensures.is ∙ ap (λ (ns : List ℕ). draft_over kept ns c.args.step) (numbers_are c))
    (c.request_payload.ensures.bytes kept.asked.command c.request_parts.ensures.words)

pub returns-clause-spelled : goal.returns-clause-spelled
returns-clause-spelled c =
    let payloads = c.args.held.now.segments in
    let table = c.args.table.now in
    let there = located_table payloads table in
    let kept = table_record_at there.records c.args.step.row in
    let low : c.args.step.row < length table.rows.items = omega (arith, c.requires.step.there, records_count payloads table c.requires.table.located) in
    let as_many : length c.as_slice.result.now ≡ length kept.asked.below = ap length (numbers_are c) ∙ length-map kept.asked.below (number_of_built (numbered_products there c.args.products.now.numbers)) in
    let fits : All (λ n. n < 2 ^ 64) c.as_slice.result.now = subst (All (λ n. n < 2 ^ 64)) (sym c.as_slice.ensures) c.in_ok-deps.ensures.fits in
    let made : HasRequestSpelling (draft_over kept c.as_slice.result.now c.args.step) =
    request_spelled kept c.as_slice.result.now c.args.step (kept_here payloads table c.requires.table.located c.args.step.row low c.requires.table.kept) c.requires.step.source_fits c.requires.step.artefact_fits as_many fits in
    if_ok (HasRequestSpelling (request_step_draft there (numbered_products there c.args.products.now.numbers) c.args.step)) c.request_payload.result
    (subst (λ (ns : List ℕ). HasRequestSpelling (draft_over kept ns c.args.step)) (numbers_are c) made)
