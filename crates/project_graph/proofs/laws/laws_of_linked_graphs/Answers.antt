-- What remains to be proved of `laws_of_linked_graphs`.
use Rattle.project_graph.proofs.LinkedGraphs.{linked_is_graph}
use Rattle.project_graph.proofs.laws.laws_of_linked_graphs.Goals as goal

pub returns : goal.returns
returns c project texts edges order proper fit are as_many is = linked_is_graph project texts edges order proper fit are as_many is
