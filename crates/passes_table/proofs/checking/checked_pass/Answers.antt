use Rattle.std.proofs.Common.{◌≡◌, ℕ, List, [], sym, subst, refl}
use Rattle.std.proofs.lemmas.Option.{get_or_from_slice_get}
use Rattle.store_table.specs.Located.{nth_payload}
use Rattle.passes_codec.specs.Forms.{ListRef}
use Rattle.passes_codec.specs.Ranges.{list_in_range, pass_in_ranges}
use Rattle.passes_table.specs.Additions.{HasSmallParts, IsCheckedList}
use Rattle.passes_table.specs.Located.{located_passes}
use Rattle.passes_table.proofs.checking.checked_pass.Goals as goal

pub returns-clause-checked : goal.returns-clause-checked
returns-clause-checked c =
    let segments : List (List ℕ) = c.args.held.now.segments in
    let table = c.checked_list.new.table in
    let payload : List ℕ = nth_payload segments c.args.at in
    let list : ListRef = list_in_range (nth_payload segments c.args.at) c.args.draft.list in
    let bytes : c.get.result.now ≡ nth_payload segments c.args.at = sym (get_or_from_slice_get segments c.args.at c.get.result.now [] c.get.ensures) in
    let small : HasSmallParts (pass_in_ranges payload c.args.draft) = subst (λ (bs : List ℕ). HasSmallParts (pass_in_ranges bs c.args.draft)) bytes (c.is_pass_small.ensures.0 c.if-not-is_pass_small.false) in
    let checked = subst (IsCheckedList (located_passes segments table) table.names.keys list) c.in-Some.is c.in_ok-list.ensures.checked in (
      record {
        valid = record { run = small.run; simulator = small.simulator; list = checked.0; output = small.output };
        files = c.requires.files;
        list = checked.1;
      },
      refl,
    )
