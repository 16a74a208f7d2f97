-- Answers to the goals of `laws_of_views`.
use Rattle.project_views.proofs.ViewLaws.{view_is_graph, view_is_whole, view_of_view}
use Rattle.project_views.proofs.views.laws_of_views.Goals as goal

pub returns-clause-graph : goal.returns-clause-graph
returns-clause-graph c = view_is_graph

pub returns-clause-whole : goal.returns-clause-whole
returns-clause-whole c = view_is_whole

pub returns-clause-within : goal.returns-clause-within
returns-clause-within c = view_of_view
