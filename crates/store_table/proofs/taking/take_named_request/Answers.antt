use Rattle.std.proofs.Common.{◌≡◌, ℕ, List, [], sym, ap, subst, ◌∙◌}
use Rattle.std.proofs.lemmas.Option.{get_or_from_slice_get}
use Rattle.store_codec.specs.Forms.{RequestDraft}
use Rattle.store_codec.specs.Ranges.{request_in_ranges}
use Rattle.store_codec.specs.RecordTables.{RecordTable, with_request}
use Rattle.store_table.specs.Checked.{IsCheckedRequest}
use Rattle.store_table.specs.Located.{nth_payload, located_table}
use Rattle.store_table.proofs.Takes.{took_no_request, took_request}
use Rattle.store_table.proofs.taking.take_named_request.Goals as goal

pub returns-in_default : goal.returns-in_default
returns-in_default c =
    let table : RecordTable = located_table c.args.held.now.segments c.args.table.now in
    let draft : RequestDraft = request_in_ranges (nth_payload c.args.held.now.segments c.args.at) c.args.draft in
    let bytes : c.get.result.now ≡ nth_payload c.args.held.now.segments c.args.at = sym (get_or_from_slice_get c.args.held.now.segments c.args.at c.get.result.now [] c.get.ensures) in
    record {
      are = record { texts = c.requires.table.texts; rows = c.requires.table.rows; names_once = c.requires.table.names_once; latest = c.requires.table.latest };
      is = took_no_request table draft (subst (IsCheckedRequest table draft) c.in_default.is (subst (λ (bs : List ℕ). IsCheckedRequest table (request_in_ranges bs c.args.draft) c.in_ok-texts.field-0) bytes c.in_ok-texts.ensures));
    }

pub returns : goal.returns
returns c =
    let payloads = c.args.held.now.segments in
    let table : RecordTable = located_table payloads c.args.table.now in
    let draft : RequestDraft = request_in_ranges (nth_payload payloads c.args.at) c.args.draft in
    let bytes : c.get.result.now ≡ nth_payload c.args.held.now.segments c.args.at = sym (get_or_from_slice_get c.args.held.now.segments c.args.at c.get.result.now [] c.get.ensures) in
    let checked = subst (IsCheckedRequest table draft) c.in-Some.is (subst (λ (bs : List ℕ). IsCheckedRequest table (request_in_ranges bs c.args.draft) c.in_ok-texts.field-0) bytes c.in_ok-texts.ensures) in
    record {
      are = c.put_request.ensures.are;
      is = c.put_request.ensures.is ∙ ap (λ (s : RecordTable). with_request s draft) (c.in_ok-reserve.ensures.is payloads) ∙ took_request table draft checked.0;
    }
