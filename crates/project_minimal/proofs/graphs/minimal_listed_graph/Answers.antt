-- The part of the listed project that tests need.
use Rattle.std.proofs.Common.{◌∙◌, List, sym, ap, subst}
use Rattle.std.proofs.lemmas.Result.{IfOk-weaker}
use Rattle.base.specs.declared.graph.Entry.{Entry}
use Rattle.base.specs.Graphs.{IsGraph}
use Rattle.base.specs.PresentGraph.{listed}
use Rattle.base.specs.View.{part}
use Rattle.project_views.proofs.ListedGraph.{listed_is_graph}
use Rattle.project_views.proofs.Parts.{part_is_graph}
use Rattle.project_minimal.proofs.NeededParts.{listed_part_of}
use Rattle.project_minimal.proofs.graphs.minimal_listed_graph.Goals as goal

pub restrict-requires-clause-part : goal.restrict-requires-clause-part
restrict-requires-clause-part c =
    listed_part_of c.args.project.now c.args.texts c.requires.outlined.scans c.args.tests.now c.requires.texts.each
    c.in_ok-entries.entries.items c.in_ok-kept.kept c.in_ok-entries.ensures (c.in_ok-kept.ensures c.requires.outlined.scans c.requires.outlined.are)

pub restrict-requires-clause-few : goal.restrict-requires-clause-few
restrict-requires-clause-few c = (subst IsGraph (sym c.in_ok-entries.ensures) (listed_is_graph c.args.project.now c.args.texts c.requires.project c.requires.few c.requires.texts)).few

pub graph_of_entries-requires : goal.graph_of_entries-requires
graph_of_entries-requires c =
    let is = listed_part_of c.args.project.now c.args.texts c.requires.outlined.scans c.args.tests.now c.requires.texts.each
    c.in_ok-entries.entries.items c.in_ok-kept.kept c.in_ok-entries.ensures (c.in_ok-kept.ensures c.requires.outlined.scans c.requires.outlined.are) in
    let whole = subst IsGraph (sym c.in_ok-entries.ensures) (listed_is_graph c.args.project.now c.args.texts c.requires.project c.requires.few c.requires.texts) in
    subst IsGraph (sym c.in_ok-some.ensures) (part_is_graph c.in_ok-entries.entries.items c.in_ok-kept.kept is whole)

pub returns : goal.returns
returns c = IfOk-weaker c.graph_of_entries.result _ _ (λ graph same scans are.
    same ∙ c.in_ok-some.ensures ∙ ap (λ (entries : List Entry). part entries c.in_ok-kept.kept) c.in_ok-entries.ensures
    ∙ ap (part (listed c.args.project.now.files c.args.texts)) (c.in_ok-kept.ensures scans are)) c.graph_of_entries.ensures
