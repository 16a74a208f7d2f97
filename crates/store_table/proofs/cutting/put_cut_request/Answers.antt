use Rattle.std.proofs.Common.{ℕ, List, length, sym, ap, subst, ◌∙◌}
use Rattle.store_codec.specs.Forms.{RequestDraft}
use Rattle.base_bytes.specs.TextRefs.TextRef.{InFull}
use Rattle.store_codec.specs.Ranges.{request_in_ranges}
use Rattle.store_codec.specs.RecordTables.{IsRequest, RecordTable, with_request}
use Rattle.store_table.specs.Cuts.{with_new_text, with_source}
use Rattle.store_table.specs.Located.{nth_payload, located_table, located_texts}
use Rattle.store_table.proofs.CutParts.{known_source}
use Rattle.store_table.proofs.Finding.{is_new}
use Rattle.store_table.proofs.OverText.{request_over, request_same}
use Rattle.store_table.proofs.cutting.put_cut_request.Goals as goal

pub put_source-requires-clause-new : goal.put_source-requires-clause-new
put_source-requires-clause-new c =
    let segments : List (List ℕ) = c.args.held.now.segments in
    is_new (located_texts segments c.args.table.now.texts) (nth_payload segments c.args.segment) c.requires.request.source

pub put_request-requires-clause-request : goal.put_request-requires-clause-request
put_request-requires-clause-request c =
    let segments : List (List ℕ) = c.args.held.now.segments in
    let before : RecordTable = located_table c.args.held.now.segments c.args.table.now in
    let text : List ℕ = nth_payload c.args.held.now.segments c.args.segment in
    let draft : RequestDraft = request_in_ranges (nth_payload c.args.held.now.segments c.args.at) c.args.draft in
    let is : IsRequest (located_table c.args.held.now.segments c.args.table.now) (with_source (InFull (nth_payload c.args.held.now.segments c.args.segment)) (request_in_ranges (nth_payload c.args.held.now.segments c.args.at) c.args.draft)) = record { name = c.requires.request.name; command = c.requires.request.command; source = c.requires.request.source; text_small = c.requires.request.text_small; artefact = c.requires.request.artefact; small = c.requires.request.small; few = c.requires.request.few; there = c.requires.request.there; apart = c.requires.request.apart; others = c.requires.request.others } in
    let there = c.put_source.ensures.is in
    let known = known_source (nth_payload segments c.args.at) c.args.draft c.args.numbers.text (length before.texts) c.requires.source c.requires.numbers.text in
    subst (λ (s : RecordTable). IsRequest s (request_in_ranges (nth_payload c.args.held.now.segments c.args.at) c.args.draft)) (sym there)
    (subst (IsRequest (with_new_text before text)) (sym known) (request_over before text draft is))

pub returns-clause-is : goal.returns-clause-is
returns-clause-is c =
    let segments : List (List ℕ) = c.args.held.now.segments in
    let before : RecordTable = located_table c.args.held.now.segments c.args.table.now in
    let text : List ℕ = nth_payload c.args.held.now.segments c.args.segment in
    let draft : RequestDraft = request_in_ranges (nth_payload c.args.held.now.segments c.args.at) c.args.draft in
    let there = c.put_source.ensures.is in
    let known = known_source (nth_payload segments c.args.at) c.args.draft c.args.numbers.text (length before.texts) c.requires.source c.requires.numbers.text in
    c.put_request.ensures.is
    ∙ ap (λ (s : RecordTable). with_request s (request_in_ranges (nth_payload c.args.held.now.segments c.args.at) c.args.draft)) there
    ∙ ap (with_request (with_new_text before text)) known
    ∙ request_same before text draft
