use Rattle.std.proofs.Common.{◌≡◌, ℕ, List, ◌++◌, length, take, get_or, sym, ap, ◌∙◌, arith, append_assoc}
use Rattle.std.specs.List.{flat_map}
use Rattle.std.proofs.lemmas.List.{append-nil, length-map}
use Rattle.store_table.specs.Located.{located_text, located_texts}
use Rattle.passes_codec.specs.Forms.{file_bytes}
use Rattle.passes_table.specs.Pending.{all_texts, row_draft, row_drafts}
use Rattle.passes_table.proofs.RowBytes.{bytes_next, has_row, known_next, no_drafts, no_product, none_known, row_in_order}
use Rattle.passes_table.proofs.writing.put_files.Goals as goal

pub loop-row-init : goal.loop-row-init
loop-row-init c =
    let texts : List (List ℕ) = located_texts c.args.held.now.segments c.args.table.now.texts in
    let size : c.len-known.result ≡ length texts = omega (arith, c.len-known.ensures, length-map c.args.table.now.texts.indices.items (located_text c.args.held.now.segments)) in
    record { known = size ∙ none_known (length texts); out = sym (append-nil c.args.out.now) ∙ ap (λ (bs : List ℕ). c.args.out.now ++ bs) (no_drafts c.args.table.now.names.keys (all_texts texts c.args.list.now) (length texts)) }

pub put_row-requires-clause-row : goal.put_row-requires-clause-row
put_row-requires-clause-row c = has_row c.args.table.now.names.keys (all_texts (located_texts c.args.held.now.segments c.args.table.now.texts) c.args.list.now) (length (located_texts c.args.held.now.segments c.args.table.now.texts)) c.args.list.now.row.files c.as_slice-rows.result.now c.as_slice-rows.ensures c.loop-row.row-index c.loop-row.known c.loop-row-test.true c.loop-row.invariant.known

pub after_row-known-requires-clause-low : goal.after_row-known-requires-clause-low
after_row-known-requires-clause-low c = row_in_order c.args.table.now.names.keys (all_texts (located_texts c.args.held.now.segments c.args.table.now.texts) c.args.list.now) (length (located_texts c.args.held.now.segments c.args.table.now.texts)) c.args.list.now.row.files c.as_slice-rows.result.now c.as_slice-rows.ensures c.loop-row.row-index c.loop-row.known c.loop-row-test.true c.loop-row.invariant.known c.requires.list.in_order

pub loop-row-preserved : goal.loop-row-preserved
loop-row-preserved c = record {
  known = c.after_row-known.ensures ∙ known_next c.args.table.now.names.keys (all_texts (located_texts c.args.held.now.segments c.args.table.now.texts) c.args.list.now) (length (located_texts c.args.held.now.segments c.args.table.now.texts)) c.args.list.now.row.files c.as_slice-rows.result.now c.as_slice-rows.ensures c.loop-row.row-index c.loop-row.known c.loop-row-test.true c.loop-row.invariant.known;
  out =
      c.in_ok-put_row.ensures
      ∙ ap (λ (bs : List ℕ). bs ++ file_bytes (row_draft c.args.table.now.names.keys (all_texts (located_texts c.args.held.now.segments c.args.table.now.texts) c.args.list.now) c.loop-row.known (get_or c.as_slice-rows.result.now c.loop-row.row-index no_product))) c.loop-row.invariant.out
      ∙ append_assoc c.args.out.now (flat_map file_bytes (row_drafts c.args.table.now.names.keys (all_texts (located_texts c.args.held.now.segments c.args.table.now.texts) c.args.list.now) (length (located_texts c.args.held.now.segments c.args.table.now.texts)) (take c.loop-row.row-index c.args.list.now.row.files))) (file_bytes (row_draft c.args.table.now.names.keys (all_texts (located_texts c.args.held.now.segments c.args.table.now.texts) c.args.list.now) c.loop-row.known (get_or c.as_slice-rows.result.now c.loop-row.row-index no_product)))
      ∙ ap (λ (bs : List ℕ). c.args.out.now ++ bs) (sym (bytes_next c.args.table.now.names.keys (all_texts (located_texts c.args.held.now.segments c.args.table.now.texts) c.args.list.now) (length (located_texts c.args.held.now.segments c.args.table.now.texts)) c.args.list.now.row.files c.as_slice-rows.result.now c.as_slice-rows.ensures c.loop-row.row-index c.loop-row.known c.loop-row-test.true c.loop-row.invariant.known));
}
