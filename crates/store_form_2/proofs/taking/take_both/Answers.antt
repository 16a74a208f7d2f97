use Rattle.std.proofs.Common.{◌≡◌, ◌∙◌, List, ℕ, Bool, ap, sym, if◌then◌else◌}
use Rattle.store_form_2.specs.Forms.{Draft}
use Rattle.store_form_2.specs.NodeContents.{Contents, is_artefact, with_draft, with_node_record}
use Rattle.store_form_2.specs.Spans.{draft_in}
use Rattle.base_bytes.specs.Ranges.{ranged}
use Rattle.store_form_2.specs.Locations.{payload_at, contents_in}
use Rattle.store_form_2.proofs.Shelved.{draft_record, no_artefact_of, no_draft_of, small}
use Rattle.store_form_2.proofs.Taken.{payload_is}
use Rattle.store_form_2.proofs.taking.take_both.Goals as goal

pub returns-then-not-is_artefact-clause-is : goal.returns-then-not-is_artefact-clause-is
returns-then-not-is_artefact-clause-is c =
    let bytes = payload_is c.args.segments.now.payloads c.args.at c.get.result.now c.get.ensures in
    sym (no_artefact_of _ _ _ (ap (λ (b : List ℕ). is_artefact (ranged b c.args.artefact)) bytes ∙ sym c.is_artefact.ensures ∙ c.if-not-is_artefact.true))

pub returns-then-not-taken-clause-is : goal.returns-then-not-taken-clause-is
returns-then-not-taken-clause-is c =
    let payloads = c.args.segments.now.payloads in
    let contents : Contents = contents_in payloads c.args.contents.now in
    let draft : Draft = draft_in (payload_at payloads c.args.at) c.args.draft in
    c.in_ok-taken.ensures.is
    ∙ ap (λ (t : Bool). if t then with_draft contents draft else contents) c.if-not-taken.true
    ∙ sym (no_draft_of contents draft _ (sym c.in_ok-taken.ensures.answer ∙ c.if-not-taken.true))

pub add_record-requires-clause-small : goal.add_record-requires-clause-small
add_record-requires-clause-small c =
    let bytes = payload_is c.args.segments.now.payloads c.args.at c.get.result.now c.get.ensures in
    small _ (ap (λ (b : List ℕ). is_artefact (ranged b c.args.artefact)) bytes ∙ sym c.is_artefact.ensures ∙ c.if-not-is_artefact.false)

pub returns-clause-is : goal.returns-clause-is
returns-clause-is c =
    let payloads = c.args.segments.now.payloads in
    let contents : Contents = contents_in payloads c.args.contents.now in
    let draft : Draft = draft_in (payload_at payloads c.args.at) c.args.draft in
    let artefact : List ℕ = ranged (payload_at payloads c.args.at) c.args.artefact in
    let bytes = payload_is payloads c.args.at c.get.result.now c.get.ensures in
    let fits = ap (λ (b : List ℕ). is_artefact (ranged b c.args.artefact)) bytes ∙ sym c.is_artefact.ensures ∙ c.if-not-is_artefact.false in
    let mid : contents_in payloads c.take_node.new.contents ≡ with_draft contents draft = c.in_ok-taken.ensures.is ∙ ap (λ (t : Bool). if t then with_draft contents draft else contents) c.if-not-taken.false in
    c.in_ok-add_record.ensures.is
    ∙ ap (λ (s : Contents). with_node_record s c.len-number.result artefact) mid
    ∙ ap (λ (n : ℕ). with_node_record (with_draft contents draft) n artefact) c.len-number.ensures.len
    ∙ sym (draft_record contents draft artefact (sym c.in_ok-taken.ensures.answer ∙ c.if-not-taken.false) fits)
