use Rattle.std.proofs.Common.{◌≡◌, ℕ, List, ◌++◌, ◌∷◌, [], false, sym, ap, subst, ◌∙◌}
use Rattle.store_form_2.specs.Forms.{Draft}
use Rattle.store_form_2.specs.Nodes.{AreNodes, Node}
use Rattle.store_form_2.specs.NodeContents.{draft_node, is_draft}
use Rattle.store_form_2.specs.Spans.{draft_in}
use Rattle.store_form_2.specs.Rows.{node_in}
use Rattle.store_form_2.specs.Drafts.{IsNewRow, IsRowOfDraft}
use Rattle.store_form_2.specs.Locations.{payload_at, texts_in}
use Rattle.store_form_2.specs.Taking.{TookDraft}
use Rattle.store_form_2.proofs.Taken.{new_node, node_same, payload_is, told}
use Rattle.store_form_2.proofs.taking.take_draft.Goals as goal

pub returns-then-not-fits-clause-took : goal.returns-then-not-fits-clause-took
returns-then-not-fits-clause-took c =
    let payloads = c.args.segments.now.payloads in
    let texts : List (List ℕ) = texts_in payloads c.args.texts.now in
    let table = c.new_row.new.table in
    let nodes = c.args.table.now.nodes in
    let bytes : payload_at payloads c.args.at ≡ c.get-bytes.result.now = payload_is payloads c.args.at c.get-bytes.result.now c.get-bytes.ensures in
    let draft : Draft = draft_in c.get-bytes.result.now c.args.draft in
    let is : IsRowOfDraft texts table draft c.in-Some.row = subst (IsNewRow texts table draft) c.in-Some.is c.in_ok-row.ensures.row in
    let same : table.nodes ≡ nodes = c.in_ok-row.ensures.nodes in
    let are : AreNodes texts table.nodes = subst (AreNodes texts) (sym same) (record { texts_once = c.requires.nodes.texts_once; nodes_once = c.requires.nodes.nodes_once; each = c.requires.nodes.each }) in
    let answers = told c.args.test.now texts table draft c.in-Some.row c.source_len-own.result c.in_ok-fits.fits is are c.requires.lengths c.source_len-own.ensures c.in_ok-fits.ensures.fits in
    subst (λ (b : List ℕ). TookDraft payloads texts nodes c.args.texts.now table.nodes c.is_current.new.self (draft_in b c.args.draft) false) (sym bytes)
    (record {
      answer = λ records. sym c.if-not-fits.true ∙ answers records ∙ ap (λ (ns : List Node). is_draft (record { texts = texts; nodes = ns; records = records }) draft) same;
      texts_are = record {
        are = record { located = c.requires.texts.located; fingerprinted = c.requires.texts.fingerprinted };
        is = λ i. texts;
        lengths_are = c.requires.lengths ∙ sym c.in_ok-fits.ensures.same;
      };
      nodes_are = same;
    })

pub put-requires-clause-new : goal.put-requires-clause-new
put-requires-clause-new c =
    let texts : List (List ℕ) = texts_in c.args.segments.now.payloads c.args.texts.now in
    let table = c.new_row.new.table in
    let draft : Draft = draft_in c.get-bytes.result.now c.args.draft in
    let is : IsRowOfDraft texts table draft c.in-Some.row = subst (IsNewRow texts table draft) c.in-Some.is c.in_ok-row.ensures.row in
    new_node texts table c.reserve.new.self draft c.in-Some.row is c.in_ok-reserve.ensures.names c.in_ok-reserve.ensures.commands c.in_ok-reserve.ensures.nodes

pub returns-clause-took : goal.returns-clause-took
returns-clause-took c =
    let payloads = c.args.segments.now.payloads in
    let texts : List (List ℕ) = texts_in payloads c.args.texts.now in
    let table = c.new_row.new.table in
    let nodes = c.args.table.now.nodes in
    let bytes : payload_at payloads c.args.at ≡ c.get-bytes.result.now = payload_is payloads c.args.at c.get-bytes.result.now c.get-bytes.ensures in
    let draft : Draft = draft_in c.get-bytes.result.now c.args.draft in
    let is : IsRowOfDraft texts table draft c.in-Some.row = subst (IsNewRow texts table draft) c.in-Some.is c.in_ok-row.ensures.row in
    let same : table.nodes ≡ nodes = c.in_ok-row.ensures.nodes in
    let are : AreNodes texts table.nodes = subst (AreNodes texts) (sym same) (record { texts_once = c.requires.nodes.texts_once; nodes_once = c.requires.nodes.nodes_once; each = c.requires.nodes.each }) in
    let answers = told c.args.test.now texts table draft c.in-Some.row c.source_len-own.result c.in_ok-fits.fits is are c.requires.lengths c.source_len-own.ensures c.in_ok-fits.ensures.fits in
    let node = node_same texts table c.reserve.new.self draft c.in-Some.row is c.in_ok-reserve.ensures.names c.in_ok-reserve.ensures.commands in
    record {
      answer = λ records. sym c.if-not-fits.false ∙ answers records ∙ ap (λ (ns : List Node). is_draft (record { texts = texts; nodes = ns; records = records }) draft) same ∙ ap (λ (b : List ℕ). is_draft (record { texts = texts; nodes = nodes; records = records }) (draft_in b c.args.draft)) (sym bytes);
      texts_are = c.in_ok-add_source.ensures;
      nodes_are = c.put.ensures.nodes ∙ ap (λ (ns : List Node). ns ++ node_in c.reserve.new.self c.in-Some.row ∷ []) (c.in_ok-reserve.ensures.nodes ∙ same) ∙ ap (λ (n : Node). nodes ++ n ∷ []) node ∙ ap (λ (b : List ℕ). nodes ++ draft_node texts (draft_in b c.args.draft) ∷ []) (sym bytes);
    }
