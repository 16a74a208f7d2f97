use Rattle.std.proofs.Common.{◌≡◌, ℕ, List, [], Some, map, sym, ap, ◌∙◌}
use Rattle.std.proofs.lemmas.Option.{get_or_from_slice_get}
use Rattle.base_bytes.specs.Ranges.{counted_numbers, counted_words}
use Rattle.store_table.specs.Located.{nth_payload, row_deps}
use Rattle.store.specs.LookedUp.{looked_up_product}
use Rattle.store.proofs.fitting.is_asked.Goals as goal

pub returns : goal.returns
returns c =
    let payloads = c.args.held.now.segments in
    let bytes : c.get-bytes.result.now ≡ nth_payload payloads c.args.row.payload = sym (get_or_from_slice_get payloads c.args.row.payload c.get-bytes.result.now [] c.get-bytes.ensures) in
    let numbers : c.numbers_of.result ≡ row_deps payloads c.args.row = c.numbers_of.ensures ∙ ap (λ (bs : List ℕ). counted_numbers bs c.args.row.deps) bytes in (
      λ e. record {
        words = sym (ap (λ (bs : List ℕ). counted_words bs c.args.row.words) bytes) ∙ c.has_words.ensures.0 c.if-not-has_words.false;
        text = c.has_text.ensures.0 c.if-not-has_text.false ∙ c.bytes.ensures;
        deps = ap (map (λ (n : ℕ). Some n)) (sym numbers) ∙ c.are_looked_up.ensures.0 e ∙ ap (map (looked_up_product c.args.handles.now)) c.as_slice.ensures;
      },
      λ is. c.are_looked_up.ensures.1 (ap (map (λ (n : ℕ). Some n)) numbers ∙ is.deps ∙ ap (map (looked_up_product c.args.handles.now)) (sym c.as_slice.ensures)),
    )
