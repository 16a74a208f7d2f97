-- Each row is filtered from the positions below the number of files.
use Rattle.vhdl_graph.proofs.EdgeLemmas.{are_edges}
use Rattle.vhdl_graph.proofs.laws.laws_of_links.Goals as goal

pub returns : goal.returns
returns c project units few = are_edges project units few
