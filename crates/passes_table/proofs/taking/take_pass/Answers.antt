use Rattle.std.proofs.Common.{◌≡◌, ℕ, List, ap, subst, ◌∙◌}
use Rattle.store_table.specs.Located.{nth_payload}
use Rattle.passes_codec.specs.Forms.{PassDraft}
use Rattle.passes_codec.specs.PassTables.{IsValidPass, PassTable, with_draft, with_pass}
use Rattle.passes_codec.specs.Ranges.{pass_in_ranges}
use Rattle.passes_table.specs.Additions.{IsCheckedPass}
use Rattle.passes_table.specs.Located.{located_passes}
use Rattle.passes_table.proofs.Takes.{took_no_pass, took_pass}
use Rattle.passes_table.proofs.taking.take_pass.Goals as goal

pub returns-in_default-clause-is : goal.returns-in_default-clause-is
returns-in_default-clause-is c =
    let segments : List (List ℕ) = c.args.held.now.segments in
    let table : PassTable = located_passes segments c.args.table.now in
    let there : PassTable = located_passes segments c.checked_pass.new.table in
    let draft : PassDraft = pass_in_ranges (nth_payload segments c.args.at) c.args.draft in
    let checked = subst (IsCheckedPass there c.checked_pass.new.table.names.keys (nth_payload segments c.args.at) c.args.draft) c.in_default.is c.in_ok-addition.ensures.checked in
    took_no_pass there draft checked ∙ ap (λ (t : PassTable). with_draft t draft) c.checked_pass.ensures.is

pub returns-clause-is : goal.returns-clause-is
returns-clause-is c =
    let segments : List (List ℕ) = c.args.held.now.segments in
    let table : PassTable = located_passes segments c.args.table.now in
    let there : PassTable = located_passes segments c.checked_pass.new.table in
    let payload : List ℕ = nth_payload segments c.args.at in
    let draft : PassDraft = pass_in_ranges payload c.args.draft in
    let checked = subst (IsCheckedPass there c.checked_pass.new.table.names.keys payload c.args.draft) c.in-Some.is c.in_ok-addition.ensures.checked in
    let spelled : pass_in_ranges payload c.in-Some.addition.draft ≡ draft = ap (pass_in_ranges payload) checked.1 in
    let valid : IsValidPass there draft = subst (IsValidPass there) spelled checked.0.valid in
    c.put_pass.ensures.is
    ∙ ap (λ (t : PassTable). with_pass t (pass_in_ranges payload c.in-Some.addition.draft)) (c.reserve.ensures.is segments)
    ∙ ap (with_pass there) spelled
    ∙ took_pass there draft valid
    ∙ ap (λ (t : PassTable). with_draft t draft) c.checked_pass.ensures.is
