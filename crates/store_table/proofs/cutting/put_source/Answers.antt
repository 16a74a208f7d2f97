use Rattle.std.proofs.Common.{◌≡◌, ℕ, List, [], ◌∷◌, ◌++◌, length, take, sym, ap, ◌∙◌}
use Rattle.std.proofs.Math.Seq.{take-length}
use Rattle.std.proofs.lemmas.Option.{get_or_from_slice_get}
use Rattle.base_bytes.specs.Ranges.{ranged}
use Rattle.store_table.specs.Located.{IsTableLocated, nth_payload, located_texts}
use Rattle.store_table.proofs.OverText.{table_with_text}
use Rattle.store_table.proofs.cutting.put_source.Goals as goal

pub returns-clause-is : goal.returns-clause-is
returns-clause-is c =
    let segments : List (List ℕ) = c.args.held.now.segments in
    let text : List ℕ = nth_payload segments c.args.segment in
    let table = c.args.table.now in
    let bytes : c.get-count.result.now ≡ nth_payload segments c.args.segment = sym (get_or_from_slice_get segments c.args.segment c.get-count.result.now [] c.get-count.ensures) in
    let count : length c.get-count.result.now ≡ length (nth_payload segments c.args.segment) = ap length bytes in
    let full : ranged (nth_payload segments c.args.segment) (record { start = 0; count = length c.get-count.result.now }) ≡ nth_payload segments c.args.segment =
    ap (λ (n : ℕ). take n (nth_payload segments c.args.segment)) count ∙ take-length (nth_payload segments c.args.segment) in
    let are : IsTableLocated segments table = record { texts = c.requires.table.texts; rows = c.requires.table.rows; names_once = c.requires.table.names_once; latest = c.requires.table.latest } in
    table_with_text segments table c.put_text.new.texts text are c.put_text.ensures.are (c.put_text.ensures.is ∙ ap (λ (t : List ℕ). located_texts segments table.texts ++ t ∷ []) full)
