use Rattle.std.proofs.Common.{◌≡◌, ℕ, List, [], ◌∷◌, sym, ap, subst, ◌∙◌}
use Rattle.std.proofs.lemmas.List.{get_or_at}
use Rattle.store_codec.specs.Ranges.{request_in_ranges}
use Rattle.store_codec.specs.RecordTables.{IsRequest, RecordTable, record_table_of, with_request}
use Rattle.store_table.specs.Checked.{AreTextNumbers}
use Rattle.store_table.specs.Located.{nth_payload, located_table}
use Rattle.store_table.proofs.Keeping.{keeps_more}
use Rattle.store.proofs.Adding.{adds_table}
use Rattle.store_table.proofs.Longer.{table_located_still, table_same_still}
use Rattle.store.proofs.additions.put_whole.Goals as goal

pub put_request-requires-clause-table : goal.put_request-requires-clause-table
put_request-requires-clause-table c =
    table_located_still c.args.held.now.segments c.put.new.self.segments c.args.table.now (keeps_more c.args.held.now.segments (c.args.segment ∷ []) c.put.new.self.segments c.put.ensures.segments) c.requires.is.are

pub put_request-requires-clause-request : goal.put_request-requires-clause-request
put_request-requires-clause-request c =
    let payloads : List (List ℕ) = c.args.held.now.payloads in
    let segments : List (List ℕ) = c.args.held.now.segments in
    let now : List (List ℕ) = c.put.new.self.segments in
    let table = c.args.table.now in
    let segment : nth_payload c.put.new.self.segments c.len-at.result ≡ c.args.segment = ap (λ (ps : List (List ℕ)). nth_payload ps c.len-at.result) c.put.ensures.segments ∙ get_or_at segments c.args.segment [] [] c.len-at.result (sym c.len-at.ensures) in
    let whole : located_table c.put.new.self.segments c.args.table.now ≡ record_table_of c.args.held.now.payloads = table_same_still segments now table (keeps_more segments (c.args.segment ∷ []) now c.put.ensures.segments) c.requires.is.are ∙ c.requires.is.is in
    subst (λ (s : RecordTable). IsRequest s (request_in_ranges (nth_payload c.put.new.self.segments c.len-at.result) c.args.addition.draft)) (sym whole)
    (subst (λ (bs : List ℕ). IsRequest (record_table_of payloads) (request_in_ranges bs c.args.addition.draft)) (sym segment) c.requires.ready.request)

pub put_request-requires-clause-numbers : goal.put_request-requires-clause-numbers
put_request-requires-clause-numbers c =
    let payloads : List (List ℕ) = c.args.held.now.payloads in
    let segments : List (List ℕ) = c.args.held.now.segments in
    let now : List (List ℕ) = c.put.new.self.segments in
    let table = c.args.table.now in
    let segment : nth_payload c.put.new.self.segments c.len-at.result ≡ c.args.segment = ap (λ (ps : List (List ℕ)). nth_payload ps c.len-at.result) c.put.ensures.segments ∙ get_or_at segments c.args.segment [] [] c.len-at.result (sym c.len-at.ensures) in
    let whole : located_table c.put.new.self.segments c.args.table.now ≡ record_table_of c.args.held.now.payloads = table_same_still segments now table (keeps_more segments (c.args.segment ∷ []) now c.put.ensures.segments) c.requires.is.are ∙ c.requires.is.is in
    subst (λ (s : RecordTable). AreTextNumbers s.texts (request_in_ranges (nth_payload c.put.new.self.segments c.len-at.result) c.args.addition.draft) c.args.addition.numbers) (sym whole)
    (subst (λ (bs : List ℕ). AreTextNumbers (record_table_of payloads).texts (request_in_ranges bs c.args.addition.draft) c.args.addition.numbers) (sym segment) c.requires.ready.numbers)

pub returns-clause-is : goal.returns-clause-is
returns-clause-is c =
    let payloads : List (List ℕ) = c.args.held.now.payloads in
    let segments : List (List ℕ) = c.args.held.now.segments in
    let now : List (List ℕ) = c.put.new.self.segments in
    let table = c.args.table.now in
    let segment : nth_payload c.put.new.self.segments c.len-at.result ≡ c.args.segment = ap (λ (ps : List (List ℕ)). nth_payload ps c.len-at.result) c.put.ensures.segments ∙ get_or_at segments c.args.segment [] [] c.len-at.result (sym c.len-at.ensures) in
    let whole : located_table c.put.new.self.segments c.args.table.now ≡ record_table_of c.args.held.now.payloads = table_same_still segments now table (keeps_more segments (c.args.segment ∷ []) now c.put.ensures.segments) c.requires.is.are ∙ c.requires.is.is in
    record {
      are = c.put_request.ensures.are;
      is = c.put_request.ensures.is
          ∙ ap (λ (s : RecordTable). with_request s (request_in_ranges (nth_payload c.put.new.self.segments c.len-at.result) c.args.addition.draft)) whole
          ∙ ap (λ (bs : List ℕ). with_request (record_table_of payloads) (request_in_ranges bs c.args.addition.draft)) segment
          ∙ sym (adds_table payloads c.args.table.now.names.keys c.args.segment c.args.addition (record { read = c.requires.ready.read; request = c.requires.ready.request; name = c.requires.ready.name; numbers = c.requires.ready.numbers }))
          ∙ ap record_table_of (sym c.put.ensures.payloads);
    }
