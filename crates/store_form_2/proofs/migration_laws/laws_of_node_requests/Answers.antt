-- Answers to the goals of `laws_of_node_requests`.
use Rattle.store_form_2.proofs.NodeRequests.{request_alike}
use Rattle.store_form_2.proofs.migration_laws.laws_of_node_requests.Goals as goal

pub returns : goal.returns
returns c = record { by_number = λ texts nodes records are. request_alike texts nodes are records }
