use Rattle.std.proofs.Common.{◌≡◌, ℕ, List, [], ◌∷◌, ◌++◌, sym, ap, ◌∙◌}
use Rattle.std.proofs.lemmas.List.{get_or_at}
use Rattle.store_codec.specs.RecordTables.{RecordTable, after_request_payload, record_table_of}
use Rattle.store_table.specs.Located.{nth_payload, located_table}
use Rattle.store_table.proofs.Keeping.{keeps_more}
use Rattle.store_table.proofs.Longer.{table_located_still, table_same_still}
use Rattle.store_table.proofs.Takes.{table_more}
use Rattle.store_table.proofs.cutting.take_whole.Goals as goal

pub take_up-requires-clause-table : goal.take_up-requires-clause-table
take_up-requires-clause-table c =
    let segments : List (List ℕ) = c.args.held.now.segments in
    let now : List (List ℕ) = c.put_whole.new.self.segments in
    table_located_still segments now c.args.table.now (keeps_more segments (c.in_ok-copy.copy ∷ []) now c.in_ok-put_whole.ensures.segments) c.requires.are

pub returns : goal.returns
returns c =
    let segments : List (List ℕ) = c.args.held.now.segments in
    let payloads : List (List ℕ) = c.args.held.now.payloads in
    let now : List (List ℕ) = c.put_whole.new.self.segments in
    let segment : nth_payload c.put_whole.new.self.segments c.len-at.result ≡ c.args.payload.now =
    ap (λ (ps : List (List ℕ)). nth_payload ps c.len-at.result) c.in_ok-put_whole.ensures.segments ∙ get_or_at segments c.in_ok-copy.copy [] [] c.len-at.result (sym c.len-at.ensures) ∙ c.in_ok-copy.ensures in
    let whole : located_table c.put_whole.new.self.segments c.args.table.now ≡ record_table_of c.args.held.now.payloads =
    table_same_still segments now c.args.table.now (keeps_more segments (c.in_ok-copy.copy ∷ []) now c.in_ok-put_whole.ensures.segments) c.requires.are ∙ c.requires.is in
    let all : c.put_whole.new.self.payloads ≡ c.args.held.now.payloads ++ c.args.payload.now ∷ [] =
    c.in_ok-put_whole.ensures.payloads ∙ ap (λ (p : List ℕ). c.args.held.now.payloads ++ p ∷ []) c.in_ok-copy.ensures in
    record {
      held = record {
        are = c.in_ok-take_up.ensures.are;
        is = c.in_ok-take_up.ensures.is
            ∙ ap (λ (s : RecordTable). after_request_payload s (nth_payload c.put_whole.new.self.segments c.len-at.result)) whole
            ∙ ap (after_request_payload (record_table_of payloads)) segment
            ∙ sym (table_more payloads c.args.payload.now)
            ∙ ap record_table_of (sym all);
      };
      payloads = all;
      borrowed = c.put_whole.ensures.borrowed;
    }
