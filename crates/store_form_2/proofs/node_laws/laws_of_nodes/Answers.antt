use Rattle.store_form_2.proofs.Once.{one_number}
use Rattle.store_form_2.proofs.TakingSteps.{nodes_of}
use Rattle.store_form_2.proofs.node_laws.laws_of_nodes.Goals as goal

pub returns : goal.returns
returns c = record {
  nodes = nodes_of;
  once = λ texts nodes m n are l k same. one_number texts nodes m n are l k same;
}
