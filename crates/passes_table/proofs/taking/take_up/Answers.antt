use Rattle.std.proofs.Common.{◌≡◌, List, [], ℕ, Option, None, Some, sym, subst, ◌∙◌}
use Rattle.std.specs.Prelude.{IfSome}
use Rattle.std.proofs.lemmas.Option.{get_or_from_slice_get}
use Rattle.std.proofs.lemmas.Result.{on_ok_weaker}
use Rattle.base_bytes.specs.Reading.{ReadsAll}
use Rattle.store_table.specs.Located.{nth_payload}
use Rattle.passes_codec.specs.Forms.{pass_in}
use Rattle.passes_codec.specs.Ranges.{HasFilesAt, pass_in_ranges}
use Rattle.passes_codec.specs.declared.reading.PassRanges.{PassRanges}
use Rattle.passes_table.specs.Located.{located_passes}
use Rattle.passes_table.proofs.Takes.{took_nothing, took_payload}
use Rattle.passes_table.proofs.taking.take_up.Goals as goal

pub take_pass-requires-clause-files : goal.take_pass-requires-clause-files
take_pass-requires-clause-files c =
    subst (λ (bs : List ℕ). HasFilesAt bs c.in-Some.draft.list) (sym (get_or_from_slice_get c.args.held.now.segments c.args.at c.get.result.now [] c.get.ensures)) (subst (λ (r : Option PassRanges). IfSome r (λ (draft : PassRanges). HasFilesAt c.get.result.now draft.list)) c.in-Some.is c.read_pass_payload.ensures.files)

pub returns-in-Some-clause-is : goal.returns-in-Some-clause-is
returns-in-Some-clause-is c =
    let payloads = c.args.held.now.segments in
    let read : pass_in (nth_payload payloads c.args.at) ≡ Some (pass_in_ranges (nth_payload payloads c.args.at) c.in-Some.draft) =
    subst (λ (bs : List ℕ). pass_in bs ≡ Some (pass_in_ranges bs c.in-Some.draft)) (sym (get_or_from_slice_get payloads c.args.at c.get.result.now [] c.get.ensures)) (subst (λ (r : Option PassRanges). ReadsAll (pass_in_ranges c.get.result.now) r (pass_in c.get.result.now)) c.in-Some.is c.read_pass_payload.ensures.is) in
    on_ok_weaker c.take_pass.result (λ took. took ∙ took_payload (located_passes payloads c.args.table.now) (nth_payload payloads c.args.at) (pass_in_ranges (nth_payload payloads c.args.at) c.in-Some.draft) read) c.take_pass.ensures.is

pub returns-in-None-clause-is : goal.returns-in-None-clause-is
returns-in-None-clause-is c =
    let payloads = c.args.held.now.segments in
    took_nothing (located_passes payloads c.args.table.now) (nth_payload payloads c.args.at) (subst (λ (bs : List ℕ). pass_in bs ≡ None) (sym (get_or_from_slice_get payloads c.args.at c.get.result.now [] c.get.ensures)) (subst (λ (r : Option PassRanges). ReadsAll (pass_in_ranges c.get.result.now) r (pass_in c.get.result.now)) c.in-None.is c.read_pass_payload.ensures.is))
