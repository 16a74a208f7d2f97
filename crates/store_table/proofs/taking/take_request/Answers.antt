use Rattle.std.proofs.Common.{◌≡◌, List, [], ℕ, true≢false, sym, ap, subst, ◌∙◌}
use Rattle.std.proofs.lemmas.Option.{get_or_from_slice_get}
use Rattle.base.specs.declared.file.FileName.{FileName}
use Rattle.base.specs.Names.{FitsName}
use Rattle.store_codec.specs.Forms.{RequestDraft}
use Rattle.store_codec.specs.Ranges.{request_in_ranges}
use Rattle.base_bytes.specs.Ranges.{ranged}
use Rattle.store_codec.specs.RecordTables.{RecordTable}
use Rattle.store_table.specs.Checked.{IsNameNumber}
use Rattle.store_table.specs.Located.{nth_payload, located_table}
use Rattle.store_table.proofs.Takes.{took_no_request}
use Rattle.store_table.proofs.taking.take_request.Goals as goal

pub returns-then-not-is_within_limits : goal.returns-then-not-is_within_limits
returns-then-not-is_within_limits c =
    let payloads = c.args.held.now.segments in
    let table : RecordTable = located_table payloads c.args.table.now in
    let draft : RequestDraft = request_in_ranges (nth_payload payloads c.args.at) c.args.draft in
    let bytes : c.get.result.now ≡ nth_payload payloads c.args.at = sym (get_or_from_slice_get payloads c.args.at c.get.result.now [] c.get.ensures) in
    let named : c.in_ok-name.name ≡ draft.name = c.in_ok-name.ensures ∙ ap (λ (bs : List ℕ). record { library = ranged bs c.args.draft.library; path = ranged bs c.args.draft.path }) bytes in
    record {
      are = record { texts = c.requires.table.texts; rows = c.requires.table.rows; names_once = c.requires.table.names_once; latest = c.requires.table.latest };
      is = took_no_request table draft (λ is. true≢false (sym (c.is_within_limits.ensures.1 (subst FitsName (sym named) is.name)) ∙ c.if-not-is_within_limits.true));
    }

pub take_named_request-requires-clause-name : goal.take_named_request-requires-clause-name
take_named_request-requires-clause-name c =
    let payloads = c.args.held.now.segments in
    let bytes : c.get.result.now ≡ nth_payload payloads c.args.at = sym (get_or_from_slice_get payloads c.args.at c.get.result.now [] c.get.ensures) in
    let named = c.in_ok-name.ensures ∙ ap (λ (bs : List ℕ). record { library = ranged bs c.args.draft.library; path = ranged bs c.args.draft.path }) bytes in
    subst (λ (n : FileName). IsNameNumber c.number_name.new.table.names.keys n c.in_ok-number.number) named c.in_ok-number.ensures.named

pub take_named_request-requires-clause-fits : goal.take_named_request-requires-clause-fits
take_named_request-requires-clause-fits c =
    let payloads = c.args.held.now.segments in
    let bytes : c.get.result.now ≡ nth_payload payloads c.args.at = sym (get_or_from_slice_get payloads c.args.at c.get.result.now [] c.get.ensures) in
    let named = c.in_ok-name.ensures ∙ ap (λ (bs : List ℕ). record { library = ranged bs c.args.draft.library; path = ranged bs c.args.draft.path }) bytes in
    subst FitsName named (c.is_within_limits.ensures.0 c.if-not-is_within_limits.false)
