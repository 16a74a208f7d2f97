-- What remains to be proved of `linked_entries`.
use Rattle.std.proofs.Common.{arith, ap, sym, subst, ◌≡◌, ◌∙◌, ◌<◌, ◌++◌, ◌∷◌, [], ℕ, List, length, get_or}
use Rattle.std.proofs.lemmas.List.{take_all, length-set}
use Rattle.std.proofs.Math.ListN.{set}
use Rattle.base.specs.declared.graph.Entry.{Entry}
use Rattle.base.specs.Graphs.{IsGraph}
use Rattle.order.specs.LinkedGraph.{linked}
use Rattle.project_graph.proofs.LinkedGraphs.{entry_made, linked_more, linked_is_graph, length-linked, left_texts}
use Rattle.project_graph.proofs.graphs.linked_entries.Goals as goal

pub loop-rank-preserved : goal.loop-rank-preserved
loop-rank-preserved c =
    let low : c.loop-rank.rank < length c.args.order.now = omega (arith, c.loop-rank-test.true, ap (λ (xs : List ℕ). length xs) c.as_slice-order.ensures) in
    let text : c.in_ok-entry.entry.text ≡ get_or c.args.texts (get_or c.args.order.now c.loop-rank.rank 0) [] =
    c.in_ok-entry.ensures.text ∙ c.take_text-text.ensures.text ∙ ap (λ (xs : List ℕ). get_or c.loop-rank.texts.items (get_or xs c.loop-rank.rank 0) []) c.as_slice-order.ensures ∙ c.loop-rank.invariant.left c.loop-rank.rank (omega arith) low in
    let made = entry_made c.args.project.now c.args.texts c.args.edges.now c.args.order.now c.requires.project c.requires.texts c.requires.edges c.requires.as_many c.requires.order
    c.as_slice-order.result.now c.as_slice-files.result.now c.loop-rank.rank c.index-files-file.result c.index.result.now c.in_ok-rows.rows.items c.in_ok-entry.entry
    c.as_slice-order.ensures c.as_slice-files.ensures c.loop-rank-test.true c.index-files-file.is c.index.ensures c.in_ok-rows.ensures.count c.in_ok-rows.ensures.rows
    c.in_ok-entry.ensures.name c.in_ok-entry.ensures.command text c.in_ok-entry.ensures.deps in
    let taken : c.take_text-text.new.texts.items ≡ set c.loop-rank.texts.items (get_or c.args.order.now c.loop-rank.rank 0) [] =
    c.take_text-text.ensures.left ∙ ap (λ (xs : List ℕ). set c.loop-rank.texts.items (get_or xs c.loop-rank.rank 0) []) c.as_slice-order.ensures in
    record {
      entries = c.in_ok-push.ensures.items ∙ ap (λ (entries : List Entry). entries ++ c.in_ok-entry.entry ∷ []) c.loop-rank.invariant.entries
          ∙ linked_more c.args.project.now c.args.texts c.args.edges.now c.args.order.now c.requires.project c.requires.texts c.requires.edges c.requires.as_many c.requires.order c.loop-rank.rank c.in_ok-entry.entry low made;
      count = ap (λ (ts : List (List ℕ)). length ts) taken ∙ length-set c.loop-rank.texts.items (get_or c.args.order.now c.loop-rank.rank 0) [] ∙ c.loop-rank.invariant.count;
      left = rw taken (left_texts c.args.edges.now c.args.order.now c.requires.order c.args.texts c.loop-rank.texts.items c.loop-rank.rank c.loop-rank.invariant.left);
    }

pub returns-clause-are : goal.returns-clause-are
returns-clause-are c =
    let count = length-linked c.args.project.now c.args.texts c.args.edges.now c.args.order.now c.requires.project c.requires.texts c.requires.edges c.requires.as_many c.requires.order in
    c.loop-rank.invariant.entries
    ∙ take_all c.loop-rank.rank (linked c.args.project.now.files c.args.texts c.args.edges.now c.args.order.now) (omega (arith, count, c.loop-rank-test.false, ap (λ (xs : List ℕ). length xs) c.as_slice-order.ensures))

pub returns-clause-graph : goal.returns-clause-graph
returns-clause-graph c =
    subst IsGraph (sym (returns-clause-are c)) (linked_is_graph c.args.project.now c.args.texts c.args.edges.now c.args.order.now c.requires.project c.requires.texts c.requires.edges c.requires.as_many c.requires.order)
