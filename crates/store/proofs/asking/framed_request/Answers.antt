use Rattle.std.proofs.Common.{◌≡◌, ℕ, ◌++◌, List, length, ap, ◌∙◌, arith}
use Rattle.store_codec.specs.Forms.{RequestDraft, request_payload_bytes, request_payload_in}
use Rattle.store_codec.specs.Forms.RequestPayload.{OfRequest}
use Rattle.store_codec.specs.Layouts.{IsLayout}
use Rattle.store_codec.specs.Ranges.{request_in_ranges}
use Rattle.store_codec.specs.Writing.{request_of_parts}
use Rattle.store_codec.proofs.Spelling.{payload_again}
use Rattle.store_journal.proofs.Framed.{framed, unframed}
use Rattle.store.proofs.asking.framed_request.Goals as goal

pub of-requires-clause-length : goal.of-requires-clause-length
of-requires-clause-length c =
    let command : List (List ℕ) = c.requires.spelled.0 in
    let payload : List ℕ = request_payload_bytes (OfRequest (request_of_parts command c.args.parts)) in
    let layout : IsLayout (request_of_parts command c.args.parts) c.request_layout-layout.result = c.request_layout-layout.ensures.is command c.requires.spelled.1 c.requires.spelled.2 in
    framed c.write_request.new.out payload c.request_layout-layout.result.size (c.in_ok-write_request.ensures.bytes command c.requires.spelled.1 ∙ ap (λ (bs : List ℕ). bs ++ payload) c.in_ok-frame.ensures) layout.size

pub of-requires-clause-small : goal.of-requires-clause-small
of-requires-clause-small c =
    let command : List (List ℕ) = c.requires.spelled.0 in
    let payload : List ℕ = request_payload_bytes (OfRequest (request_of_parts command c.args.parts)) in
    let layout : IsLayout (request_of_parts command c.args.parts) c.request_layout-layout.result = c.request_layout-layout.ensures.is command c.requires.spelled.1 c.requires.spelled.2 in
    omega (
      arith,
      ap length (unframed c.write_request.new.out payload c.request_layout-layout.result.size (c.in_ok-write_request.ensures.bytes command c.requires.spelled.1 ∙ ap (λ (bs : List ℕ). bs ++ payload) c.in_ok-frame.ensures)),
      layout.size,
      c.request_layout-layout.ensures.small,
    )

pub returns : goal.returns
returns c = λ command words spelled.
    let draft : RequestDraft = request_of_parts command c.args.parts in
    let payload : List ℕ = request_payload_bytes (OfRequest draft) in
    let layout : IsLayout (request_of_parts command c.args.parts) c.request_layout-layout.result = c.request_layout-layout.ensures.is command words spelled in
    let is : c.in_ok-segment.segment ≡ request_payload_bytes (OfRequest (request_of_parts command c.args.parts)) =
    c.in_ok-segment.ensures ∙ unframed c.write_request.new.out payload c.request_layout-layout.result.size (c.in_ok-write_request.ensures.bytes command words ∙ ap (λ (bs : List ℕ). bs ++ payload) c.in_ok-frame.ensures) in
    record {
      read = ap request_payload_in is ∙ payload_again (OfRequest draft) spelled;
      parts = ap (λ (bs : List ℕ). request_in_ranges bs c.request_layout-layout.result.ranges) is ∙ layout.parts;
    }
