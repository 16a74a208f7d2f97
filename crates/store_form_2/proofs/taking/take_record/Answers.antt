use Rattle.std.proofs.Common.{◌≡◌, ℕ, List, ap, sym, subst, ◌∙◌, arith}
use Rattle.std.specs.Prelude.{OnOk}
use Rattle.store_form_2.specs.NodeContents.{is_artefact}
use Rattle.base_bytes.specs.Ranges.{ranged}
use Rattle.store_form_2.specs.Locations.{payload_at, contents_in}
use Rattle.store_form_2.proofs.Shelved.{no_artefact, no_node, node_record, small}
use Rattle.store_form_2.proofs.Taken.{payload_is}
use Rattle.store_form_2.proofs.taking.take_record.Goals as goal

pub returns-then-number-len-clause-is : goal.returns-then-number-len-clause-is
returns-then-number-len-clause-is c = sym (no_node _ _ _ (omega (arith, c.if-number-len.true, c.len.ensures.len)))

pub returns-then-not-is_artefact-clause-is : goal.returns-then-not-is_artefact-clause-is
returns-then-not-is_artefact-clause-is c =
    let bytes = payload_is c.args.segments.now.payloads c.args.at c.get.result.now c.get.ensures in
    sym (no_artefact _ _ _ (ap (λ (b : List ℕ). is_artefact (ranged b c.args.artefact)) bytes ∙ sym c.is_artefact.ensures ∙ c.if-not-is_artefact.true))

pub add_record-requires-clause-small : goal.add_record-requires-clause-small
add_record-requires-clause-small c =
    let bytes = payload_is c.args.segments.now.payloads c.args.at c.get.result.now c.get.ensures in
    small _ (ap (λ (b : List ℕ). is_artefact (ranged b c.args.artefact)) bytes ∙ sym c.is_artefact.ensures ∙ c.if-not-is_artefact.false)

pub returns-clause-is : goal.returns-clause-is
returns-clause-is c =
    let bytes = payload_is c.args.segments.now.payloads c.args.at c.get.result.now c.get.ensures in
    let fits = ap (λ (b : List ℕ). is_artefact (ranged b c.args.artefact)) bytes ∙ sym c.is_artefact.ensures ∙ c.if-not-is_artefact.false in
    let same = node_record (contents_in c.args.segments.now.payloads c.args.contents.now) c.args.number (ranged (payload_at c.args.segments.now.payloads c.args.at) c.args.artefact) (omega (arith, c.if-number-len.false, c.len.ensures.len)) fits in
    subst (λ s. OnOk c.add_record.result (contents_in c.args.segments.now.payloads c.add_record.new.contents ≡ s)) (sym same) c.add_record.ensures.is
