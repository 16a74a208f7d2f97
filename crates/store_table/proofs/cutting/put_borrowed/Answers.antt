use Rattle.std.proofs.Common.{◌≡◌, ℕ, List, [], ◌∷◌, ◌++◌, sym, ap, subst, ◌∙◌}
use Rattle.store_codec.specs.Forms.{RequestDraft}
use Rattle.store_codec.specs.Forms.RequestPayload.{OfRequest}
use Rattle.base_bytes.specs.TextRefs.TextRef.{InFull}
use Rattle.store_codec.specs.Ranges.{request_in_ranges}
use Rattle.store_codec.specs.RecordTables.{IsRequest, RecordTable, record_table_of, with_request}
use Rattle.store_table.specs.Checked.{AreTextNumbers}
use Rattle.store_table.specs.Cuts.{IsCutOf, with_source}
use Rattle.store_table.specs.Located.{nth_payload, located_table}
use Rattle.store_table.proofs.CutTaken.{cut_drafted}
use Rattle.store_table.proofs.Keeping.{keeps_more}
use Rattle.store_table.proofs.Longer.{table_located_still, table_same_still}
use Rattle.store_table.proofs.Takes.{table_more, took_payload, took_request}
use Rattle.store_table.proofs.cutting.put_borrowed.Goals as goal
use Rattle.store_table.proofs.cutting.put_borrowed.Goals.{After-put_cut}

is_request : (c : After-put_cut) → IsRequest (record_table_of c.args.held.now.payloads) (request_in_ranges c.args.payload.now c.args.draft)
is_request c = record { name = c.requires.request.name; command = c.requires.request.command; source = c.requires.request.source; text_small = c.requires.request.text_small; artefact = c.requires.request.artefact; small = c.requires.request.small; few = c.requires.request.few; there = c.requires.request.there; apart = c.requires.request.apart; others = c.requires.request.others }

draft_is : (c : After-put_cut) → with_source (InFull (nth_payload c.put_cut.new.self.segments c.args.cut.payload.file)) (request_in_ranges (nth_payload c.put_cut.new.self.segments c.len-at.result) c.args.cut.draft) ≡ request_in_ranges c.args.payload.now c.args.draft
draft_is c =
    let cut : IsCutOf c.args.held.now.borrowed c.args.payload.now c.args.draft c.args.numbers.text c.args.cut = record { file = c.requires.cut.file; text = c.requires.cut.text; whole = c.requires.cut.whole; parts = c.requires.cut.parts; source = c.requires.cut.source } in
    cut_drafted c.args.held.now.borrowed c.args.held.now.segments c.put_cut.new.self.segments c.args.payload.now c.args.draft c.args.numbers.text c.len-at.result c.args.cut cut c.put_cut.ensures.text c.put_cut.ensures.within c.put_cut.ensures.segments (sym c.len-at.ensures)

same_table : (c : After-put_cut) → located_table c.put_cut.new.self.segments c.args.table.now ≡ record_table_of c.args.held.now.payloads
same_table c =
    let segments : List (List ℕ) = c.args.held.now.segments in
    let now : List (List ℕ) = c.put_cut.new.self.segments in
    table_same_still segments now c.args.table.now (keeps_more segments (c.args.cut.payload.rest ∷ []) now c.put_cut.ensures.segments) c.requires.held.are ∙ c.requires.held.is

pub put_cut_request-requires-clause-table : goal.put_cut_request-requires-clause-table
put_cut_request-requires-clause-table c =
    let segments : List (List ℕ) = c.args.held.now.segments in
    let now : List (List ℕ) = c.put_cut.new.self.segments in
    table_located_still segments now c.args.table.now (keeps_more segments (c.args.cut.payload.rest ∷ []) now c.put_cut.ensures.segments) c.requires.held.are

pub put_cut_request-requires-clause-request : goal.put_cut_request-requires-clause-request
put_cut_request-requires-clause-request c =
    let step = (goal.at.put_cut_request-requires-clause-request c).After-put_cut in
    subst (λ (s : RecordTable). IsRequest s (with_source (InFull (nth_payload c.put_cut.new.self.segments c.args.cut.payload.file)) (request_in_ranges (nth_payload c.put_cut.new.self.segments c.len-at.result) c.args.cut.draft))) (sym (same_table step))
    (subst (IsRequest (record_table_of c.args.held.now.payloads)) (sym (draft_is step)) (is_request step))

pub put_cut_request-requires-clause-numbers : goal.put_cut_request-requires-clause-numbers
put_cut_request-requires-clause-numbers c =
    let step = (goal.at.put_cut_request-requires-clause-numbers c).After-put_cut in
    let are : AreTextNumbers (record_table_of c.args.held.now.payloads).texts (request_in_ranges c.args.payload.now c.args.draft) c.args.numbers = record { text = c.requires.numbers.text; artefact = c.requires.numbers.artefact } in
    subst (λ (s : RecordTable). AreTextNumbers s.texts (with_source (InFull (nth_payload c.put_cut.new.self.segments c.args.cut.payload.file)) (request_in_ranges (nth_payload c.put_cut.new.self.segments c.len-at.result) c.args.cut.draft)) c.args.numbers) (sym (same_table step))
    (subst (λ (d : RequestDraft). AreTextNumbers (record_table_of c.args.held.now.payloads).texts d c.args.numbers) (sym (draft_is step)) are)

pub returns : goal.returns
returns c =
    let step = (goal.at.returns c).After-put_cut in
    let table : RecordTable = record_table_of c.args.held.now.payloads in
    let draft : RequestDraft = request_in_ranges c.args.payload.now c.args.draft in
    let all : c.put_cut.new.self.payloads ≡ c.args.held.now.payloads ++ c.args.payload.now ∷ [] = c.put_cut.ensures.payloads ∙ ap (λ (p : List ℕ). c.args.held.now.payloads ++ p ∷ []) (sym c.requires.cut.whole) in
    record {
      held = record {
        are = c.put_cut_request.ensures.are;
        is = c.put_cut_request.ensures.is
            ∙ ap (λ (s : RecordTable). with_request s (with_source (InFull (nth_payload c.put_cut.new.self.segments c.args.cut.payload.file)) (request_in_ranges (nth_payload c.put_cut.new.self.segments c.len-at.result) c.args.cut.draft))) (same_table step)
            ∙ ap (with_request table) (draft_is step)
            ∙ took_request table draft (is_request step)
            ∙ took_payload table c.args.payload.now (OfRequest draft) c.requires.read
            ∙ sym (table_more c.args.held.now.payloads c.args.payload.now)
            ∙ ap record_table_of (sym all);
      };
      payloads = all;
      borrowed = c.put_cut.ensures.borrowed;
    }
