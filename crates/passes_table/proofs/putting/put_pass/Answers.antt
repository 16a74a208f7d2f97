use Rattle.std.proofs.Common.{◌≡◌, ◌++◌, ◌∷◌, [], ℕ, List, map, ap, sym, subst, ◌∙◌}
use Rattle.std.specs.Prelude.{All}
use Rattle.std.proofs.lemmas.List.{map-append}
use Rattle.std.proofs.lemmas.List.Elements.{All-push}
use Rattle.std.proofs.lemmas.Option.{get_or_from_slice_get}
use Rattle.base_bytes.specs.Ranges.{counted_words}
use Rattle.store_table.specs.Located.{nth_payload}
use Rattle.passes_codec.specs.Ranges.{run_in_ranges}
use Rattle.passes_table.specs.declared.table.PassRow.{PassRow}
use Rattle.passes_table.specs.Located.{IsPassRow, row_fingerprint}
use Rattle.passes_table.specs.Fingerprints.{tests_fingerprint}
use Rattle.passes_table.proofs.putting.put_pass.Goals as goal

pub returns-clause-are : goal.returns-clause-are
returns-clause-are c =
    let segments : List (List ℕ) = c.args.held.now.segments in
    let draft = c.args.addition.draft in
    let mid = c.put_list-number.new.table in
    let row : PassRow = record { payload = c.args.at; run = draft.run; simulator = draft.simulator; list = c.put_list-number.result; output = draft.output } in
    let bytes : c.get.result.now ≡ nth_payload segments c.args.at = sym (get_or_from_slice_get segments c.args.at c.get.result.now [] c.get.ensures) in
    let one : IsPassRow segments mid.lists.keys row = record { payload = c.requires.at; list = c.put_list-number.ensures.number; small = c.requires.is.valid.output } in
    let fingerprint : c.fingerprint_in-fingerprint.result ≡ row_fingerprint segments row = c.fingerprint_in-fingerprint.ensures ∙ ap (λ (bs : List ℕ). tests_fingerprint (run_in_ranges bs draft.run) (counted_words bs draft.simulator)) bytes in
    record {
      texts = c.put_list-number.ensures.are.texts;
      lists = c.put_list-number.ensures.are.lists;
      rows = subst (λ (rs : List PassRow). All (IsPassRow segments mid.lists.keys) rs) (sym c.push_reserved.ensures.items) (All-push (IsPassRow segments mid.lists.keys) mid.rows.items row c.put_list-number.ensures.are.rows one);
      names_once = c.put_list-number.ensures.are.names_once;
      latest = c.put.ensures ∙ ap (λ (ns : List ℕ). ns ++ c.fingerprint_in-fingerprint.result ∷ []) c.put_list-number.ensures.are.latest ∙ ap (λ (n : ℕ). map (row_fingerprint segments) mid.rows.items ++ n ∷ []) fingerprint ∙ sym (ap (map (row_fingerprint segments)) c.push_reserved.ensures.items ∙ map-append (row_fingerprint segments) mid.rows.items (row ∷ []));
    }
