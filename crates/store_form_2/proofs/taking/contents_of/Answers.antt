use Rattle.std.proofs.Common.{◌≡◌, ◌<◌, [], refl, length, map, take, ap, subst, sym, ◌∙◌, arith}
use Rattle.store_form_2.specs.Nodes.{AreNodes}
use Rattle.store_form_2.specs.NodeContents.{Contents, after_payload, empty_contents, contents_of}
use Rattle.store_form_2.proofs.TakingSteps.{nodes_of}
use Rattle.store_form_2.specs.Locations.{payload_at}
use Rattle.store_form_2.proofs.Shelved.{contents_more}
use Rattle.store_form_2.proofs.taking.contents_of.Goals as goal

none_is : empty_contents ≡ contents_of []
unfolding contents_of
none_is = refl

pub loop-at-init : goal.loop-at-init
loop-at-init c =
    let payloads = c.args.segments.now.payloads in
    let is = c.new-contents.ensures.is payloads in
    (c.new-contents.ensures.are payloads, is ∙ none_is, ap (λ (s : Contents). map length s.texts) is ∙ sym c.new-test.ensures)

pub take_up-requires-clause-nodes : goal.take_up-requires-clause-nodes
take_up-requires-clause-nodes c = subst (λ (s : Contents). AreNodes s.texts s.nodes) (sym c.loop-at.invariant.1) (nodes_of (take c.loop-at.at c.args.segments.now.payloads))

pub loop-at-preserved : goal.loop-at-preserved
loop-at-preserved c =
    let payloads = c.args.segments.now.payloads in
    let i = c.loop-at.at in
    let low : i < length payloads = omega (arith, c.loop-at-test.true, c.len-at-end.ensures) in
    let took = c.in_ok-take_up.ensures in
    (took.are, took.is ∙ ap (λ (s : Contents). after_payload s (payload_at payloads i)) c.loop-at.invariant.1 ∙ sym (contents_more payloads i low), took.lengths_are)
