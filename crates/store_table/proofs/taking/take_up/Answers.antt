use Rattle.std.proofs.Common.{◌≡◌, List, [], ℕ, Option, None, Some, sym, ap, subst, ◌∙◌}
use Rattle.std.proofs.lemmas.Option.{get_or_from_slice_get}
use Rattle.std.proofs.lemmas.Result.{on_ok_weaker}
use Rattle.base_bytes.specs.Reading.{ReadsAll}
use Rattle.store_codec.specs.declared.reading.PayloadRanges.{PayloadRanges}
use Rattle.store_codec.specs.Forms.{request_payload_in}
use Rattle.store_codec.specs.Forms.RequestPayload.{OfProduct, OfRequest}
use Rattle.store_codec.specs.Ranges.{payload_in_ranges, product_in_ranges, request_in_ranges}
use Rattle.store_codec.specs.RecordTables.{RecordTable}
use Rattle.store_table.specs.Located.{nth_payload, located_table}
use Rattle.store_table.proofs.Takes.{took_nothing, took_payload}
use Rattle.store_table.proofs.taking.take_up.Goals as goal

pub returns-in-Some-OfRequest-clause-is : goal.returns-in-Some-OfRequest-clause-is
returns-in-Some-OfRequest-clause-is c =
    let payloads = c.args.held.now.segments in
    let table : RecordTable = located_table payloads c.args.table.now in
    let bytes : c.get.result.now ≡ nth_payload payloads c.args.at = sym (get_or_from_slice_get payloads c.args.at c.get.result.now [] c.get.ensures) in
    let found = subst (λ (r : Option PayloadRanges). ReadsAll (payload_in_ranges c.get.result.now) r (request_payload_in c.get.result.now)) (c.in-Some-OfRequest.is ∙ ap (λ (r : PayloadRanges). Some r) c.in-Some-OfRequest.field-0-is) c.read_request_payload.ensures in
    let read : request_payload_in (nth_payload payloads c.args.at) ≡ Some (OfRequest (request_in_ranges (nth_payload payloads c.args.at) c.in-Some-OfRequest.draft)) =
    subst (λ (bs : List ℕ). request_payload_in bs ≡ Some (OfRequest (request_in_ranges bs c.in-Some-OfRequest.draft))) bytes found in
    on_ok_weaker c.take_request.result (λ took. took.is ∙ took_payload table (nth_payload payloads c.args.at) (OfRequest (request_in_ranges (nth_payload payloads c.args.at) c.in-Some-OfRequest.draft)) read) c.take_request.ensures

pub returns-in-Some-OfProduct-clause-is : goal.returns-in-Some-OfProduct-clause-is
returns-in-Some-OfProduct-clause-is c =
    let payloads = c.args.held.now.segments in
    let table : RecordTable = located_table payloads c.args.table.now in
    let bytes : c.get.result.now ≡ nth_payload payloads c.args.at = sym (get_or_from_slice_get payloads c.args.at c.get.result.now [] c.get.ensures) in
    let found = subst (λ (r : Option PayloadRanges). ReadsAll (payload_in_ranges c.get.result.now) r (request_payload_in c.get.result.now)) (c.in-Some-OfProduct.is ∙ ap (λ (r : PayloadRanges). Some r) c.in-Some-OfProduct.field-0-is) c.read_request_payload.ensures in
    let read : request_payload_in (nth_payload payloads c.args.at) ≡ Some (OfProduct (product_in_ranges (nth_payload payloads c.args.at) c.in-Some-OfProduct.draft)) =
    subst (λ (bs : List ℕ). request_payload_in bs ≡ Some (OfProduct (product_in_ranges bs c.in-Some-OfProduct.draft))) bytes found in
    on_ok_weaker c.take_product.result (λ took. took.is ∙ took_payload table (nth_payload payloads c.args.at) (OfProduct (product_in_ranges (nth_payload payloads c.args.at) c.in-Some-OfProduct.draft)) read) c.take_product.ensures

pub returns-in-None-clause-is : goal.returns-in-None-clause-is
returns-in-None-clause-is c =
    let payloads = c.args.held.now.segments in
    let table : RecordTable = located_table payloads c.args.table.now in
    let bytes : c.get.result.now ≡ nth_payload payloads c.args.at = sym (get_or_from_slice_get payloads c.args.at c.get.result.now [] c.get.ensures) in
    let found = subst (λ (r : Option PayloadRanges). ReadsAll (payload_in_ranges c.get.result.now) r (request_payload_in c.get.result.now)) c.in-None.is c.read_request_payload.ensures in
    took_nothing table (nth_payload payloads c.args.at) (subst (λ (bs : List ℕ). request_payload_in bs ≡ None) bytes found)
