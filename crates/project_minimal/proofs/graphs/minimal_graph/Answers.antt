-- The part of the linked project that tests need.
use Rattle.std.proofs.Common.{◌∙◌, List, sym, ap, subst}
use Rattle.std.proofs.lemmas.Result.{IfOk-weaker}
use Rattle.base.specs.declared.graph.Entry.{Entry}
use Rattle.base.specs.Graphs.{IsGraph}
use Rattle.base.specs.View.{part}
use Rattle.order.specs.LinkedGraph.{linked}
use Rattle.project_views.proofs.Parts.{part_is_graph}
use Rattle.project_minimal.proofs.NeededParts.{linked_part_of}
use Rattle.project_minimal.proofs.graphs.minimal_graph.Goals as goal

pub restrict-requires-clause-part : goal.restrict-requires-clause-part
restrict-requires-clause-part c =
    linked_part_of c.args.project.now c.args.texts c.requires.outlined.scans c.args.tests.now c.args.edges.now c.args.order.now c.requires.project c.requires.texts c.requires.edges c.requires.as_many c.requires.order
    c.in_ok-entries.entries.items c.in_ok-kept.kept c.in_ok-entries.ensures.are (c.in_ok-kept.ensures c.requires.outlined.scans c.requires.outlined.are)

pub graph_of_entries-requires : goal.graph_of_entries-requires
graph_of_entries-requires c =
    let is = linked_part_of c.args.project.now c.args.texts c.requires.outlined.scans c.args.tests.now c.args.edges.now c.args.order.now c.requires.project c.requires.texts c.requires.edges c.requires.as_many c.requires.order
    c.in_ok-entries.entries.items c.in_ok-kept.kept c.in_ok-entries.ensures.are (c.in_ok-kept.ensures c.requires.outlined.scans c.requires.outlined.are) in
    subst IsGraph (sym c.in_ok-some.ensures) (part_is_graph c.in_ok-entries.entries.items c.in_ok-kept.kept is c.in_ok-entries.ensures.graph)

pub returns : goal.returns
returns c = IfOk-weaker c.graph_of_entries.result _ _ (λ graph same scans are.
    same ∙ c.in_ok-some.ensures ∙ ap (λ (entries : List Entry). part entries c.in_ok-kept.kept) c.in_ok-entries.ensures.are
    ∙ ap (part (linked c.args.project.now.files c.args.texts c.args.edges.now c.args.order.now)) (c.in_ok-kept.ensures scans are)) c.graph_of_entries.ensures
