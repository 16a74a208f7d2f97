use Rattle.std.proofs.Common.{◌≡◌, ◌∙◌, List, ℕ, length, map, None, Some, Option, ap, sym, subst}
use Rattle.base_bytes.specs.Reading.{ReadsAll}
use Rattle.store_form_2.specs.declared.reading.PayloadSpans.{PayloadSpans}
use Rattle.store_form_2.specs.Forms.{node_payload_in}
use Rattle.store_form_2.specs.Spans.{draft_in, payload_in_spans}
use Rattle.store_form_2.specs.declared.texts.TextLocations.{TextLocations}
use Rattle.store_form_2.specs.Locations.{payload_at, contents_in, texts_in}
use Rattle.store_form_2.proofs.Shelved.{alone, took_none, took_up}
use Rattle.store_form_2.proofs.Taken.{payload_is}
use Rattle.store_form_2.proofs.taking.take_up.Goals as goal

-- what was read of some bytes, when it is known
read_as : (bytes same : List ℕ) (result : Option PayloadSpans) (spans : PayloadSpans) → same ≡ bytes → ReadsAll (payload_in_spans bytes) result (node_payload_in bytes) → result ≡ Some spans → node_payload_in same ≡ Some (payload_in_spans same spans)
read_as bytes same result spans e reads is = subst (λ (b : List ℕ). node_payload_in b ≡ Some (payload_in_spans b spans)) (sym e) (subst (λ (r : Option PayloadSpans). ReadsAll (payload_in_spans bytes) r (node_payload_in bytes)) is reads)

pub returns-in_ok-take_record-in-Some-OfNode : goal.returns-in_ok-take_record-in-Some-OfNode
returns-in_ok-take_record-in-Some-OfNode c =
    let payloads = c.args.segments.now.payloads in
    let bytes = payload_is payloads c.args.at c.get.result.now c.get.ensures in
    let read = read_as c.get.result.now (payload_at payloads c.args.at) c.read_payload.result _ bytes c.read_payload.ensures (c.in-Some-OfNode.is ∙ ap (λ (p : PayloadSpans). Some p) c.in-Some-OfNode.field-0-is) in
    took_up payloads c.args.contents.now c.take_record.new.contents c.args.test.now (payload_at payloads c.args.at) _ c.in_ok-take_record-in-Some-OfNode.ensures.are read c.in_ok-take_record-in-Some-OfNode.ensures.is
    (ap (λ (ts : TextLocations). map length (texts_in payloads ts)) c.in_ok-take_record-in-Some-OfNode.ensures.texts ∙ c.requires.lengths)

pub returns-in_ok-take_both-in-Some-OfDraft : goal.returns-in_ok-take_both-in-Some-OfDraft
returns-in_ok-take_both-in-Some-OfDraft c =
    let payloads = c.args.segments.now.payloads in
    let bytes = payload_is payloads c.args.at c.get.result.now c.get.ensures in
    let read = read_as c.get.result.now (payload_at payloads c.args.at) c.read_payload.result _ bytes c.read_payload.ensures (c.in-Some-OfDraft.is ∙ ap (λ (p : PayloadSpans). Some p) c.in-Some-OfDraft.field-0-is) in
    let done = c.in_ok-take_both-in-Some-OfDraft.ensures in
    took_up payloads c.args.contents.now c.take_both.new.contents c.take_both.new.test (payload_at payloads c.args.at) _ done.are read done.is done.lengths

pub returns-in_ok-_taken-in-Some-DraftAlone : goal.returns-in_ok-_taken-in-Some-DraftAlone
returns-in_ok-_taken-in-Some-DraftAlone c =
    let payloads = c.args.segments.now.payloads in
    let bytes = payload_is payloads c.args.at c.get.result.now c.get.ensures in
    let read = read_as c.get.result.now (payload_at payloads c.args.at) c.read_payload.result _ bytes c.read_payload.ensures (c.in-Some-DraftAlone.is ∙ ap (λ (p : PayloadSpans). Some p) c.in-Some-DraftAlone.field-0-is) in
    let done = c.in_ok-_taken-in-Some-DraftAlone.ensures in
    took_up payloads c.args.contents.now c.take_node.new.contents c.take_node.new.test (payload_at payloads c.args.at) _ done.are read
    (done.is ∙ alone (contents_in payloads c.args.contents.now) (draft_in (payload_at payloads c.args.at) c.in-Some-DraftAlone.draft) c.in_ok-_taken-in-Some-DraftAlone._taken done.answer) done.lengths_are

pub returns-in-None : goal.returns-in-None
returns-in-None c =
    let payloads = c.args.segments.now.payloads in
    let bytes = payload_is payloads c.args.at c.get.result.now c.get.ensures in
    let read : node_payload_in c.get.result.now ≡ None = subst (λ (r : Option PayloadSpans). ReadsAll (payload_in_spans c.get.result.now) r (node_payload_in c.get.result.now)) c.in-None.is c.read_payload.ensures in
    took_none payloads c.args.contents.now c.args.test.now (payload_at payloads c.args.at) (record { texts = c.requires.contents.texts; records = c.requires.contents.records })
    (subst (λ (b : List ℕ). node_payload_in b ≡ None) (sym bytes) read) c.requires.lengths
