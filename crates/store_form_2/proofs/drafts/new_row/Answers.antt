use Rattle.std.proofs.Common.{◌≡◌, ◌<◌, ℕ, List, length, true≢false, sym, ap, subst, ◌∙◌}
use Rattle.std.specs.Prelude.{All, Contains}
use Rattle.store_form_2.specs.Forms.{Draft}
use Rattle.store_form_2.specs.Nodes.{Node}
use Rattle.store_form_2.specs.NodeContents.{draft_node}
use Rattle.store_form_2.specs.Spans.{draft_in}
use Rattle.store_form_2.specs.Rows.{node_in}
use Rattle.base_collections.specs.Numbers.{IsIndexOf}
use Rattle.store_form_2.specs.Drafts.{node_with}
use Rattle.store_form_2.specs.Locations.{texts_in}
use Rattle.store_form_2.proofs.Drafted.{no_deps, no_new, no_source, located, unplaced}
use Rattle.store_form_2.proofs.SameNodes.{nodes_decide, none_any}
use Rattle.store_form_2.proofs.drafts.new_row.Goals as goal

pub returns-in_default-clause-row : goal.returns-in_default-clause-row
returns-in_default-clause-row c = λ records. no_source _ _ (sym c.in_default.ensures.is)

pub returns-then-not-are_below-clause-row : goal.returns-then-not-are_below-clause-row
returns-then-not-are_below-clause-row c = λ records.
    let node_is = c.in_ok-row.ensures.row.node_is in
    let nodes = c.row_of.new.table.nodes in
    let deps : c.as_slice.result.now ≡ (draft_in c.args.bytes.now c.args.draft).deps = c.as_slice.ensures ∙ ap (λ (n : Node). n.deps) node_is in
    no_deps _ _ (λ all.
    let here : All (λ (dep : ℕ). dep < length nodes) c.as_slice.result.now = subst (All (λ (dep : ℕ). dep < length nodes)) (sym deps) all in
    true≢false (sym (c.are_below.ensures.1 (subst (λ (n : ℕ). All (λ (dep : ℕ). dep < n) c.as_slice.result.now) (sym c.len.ensures.len) here)) ∙ c.if-not-are_below.true))

pub returns-then-is_some-clause-row : goal.returns-then-is_some-clause-row
returns-then-is_some-clause-row c = λ records.
    let draft : Draft = draft_in c.args.bytes.now c.args.draft in
    let nodes = c.row_of.new.table.nodes in
    let node : node_in c.row_of.new.table c.in_ok-row.row ≡ draft_node (texts_in c.args.segments.now.payloads c.args.texts.now) draft = c.in_ok-row.ensures.row.node_is ∙ ap (node_with draft) c.in-Some.ensures.number in
    let is : IsIndexOf nodes (node_in c.row_of.new.table c.in_ok-row.row) c.node_number.result = c.node_number.ensures in
    no_new _ _ (subst (Contains nodes) node (located nodes (node_in c.row_of.new.table c.in_ok-row.row) c.node_number.result is (sym c.is_some.ensures ∙ c.if-is_some.true)))

pub returns-clause-row : goal.returns-clause-row
returns-clause-row c =
    let draft : Draft = draft_in c.args.bytes.now c.args.draft in
    let texts : List (List ℕ) = texts_in c.args.segments.now.payloads c.args.texts.now in
    let nodes = c.row_of.new.table.nodes in
    let node_is = c.in_ok-row.ensures.row.node_is in
    let node : node_in c.row_of.new.table c.in_ok-row.row ≡ draft_node texts draft = node_is ∙ ap (node_with draft) c.in-Some.ensures.number in
    let is : IsIndexOf nodes (node_in c.row_of.new.table c.in_ok-row.row) c.node_number.result = c.node_number.ensures in
    let deps : c.as_slice.result.now ≡ draft.deps = c.as_slice.ensures ∙ ap (λ (n : Node). n.deps) node_is in
    let below : All (λ (dep : ℕ). dep < length nodes) c.as_slice.result.now = subst (λ (n : ℕ). All (λ (dep : ℕ). dep < n) c.as_slice.result.now) c.len.ensures.len (c.are_below.ensures.0 c.if-not-are_below.false) in
    record {
      row_is = record { in_table = c.in_ok-row.ensures.row.in_table; node_is = node };
      source = sym c.in-Some.ensures.is;
      new = none_any nodes_decide nodes (draft_node texts draft) (subst (λ (n : Node). ¬ Contains nodes n) node (unplaced nodes (node_in c.row_of.new.table c.in_ok-row.row) c.node_number.result is (sym c.is_some.ensures ∙ c.if-is_some.false)));
      there = subst (All (λ (dep : ℕ). dep < length nodes)) deps below;
    }
