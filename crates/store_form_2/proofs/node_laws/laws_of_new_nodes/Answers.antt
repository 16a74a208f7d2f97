use Rattle.store_form_2.proofs.NodeFits.{draft_fits, new_fits, node_listed}
use Rattle.store_form_2.proofs.node_laws.laws_of_new_nodes.Goals as goal

pub returns : goal.returns
returns c = record { fits = new_fits; draft = draft_fits; listed = node_listed }
