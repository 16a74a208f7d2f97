-- The graph of the generated project.
use Rattle.generated_laws.proofs.Edits.{is_edit}
use Rattle.generated_laws.proofs.Graphs.{both_said, graph_count, is_graph}
use Rattle.generated_laws.proofs.Uses.{entry_uses, number_placed}
use Rattle.generated_laws.proofs.build_laws.laws_of_numbered_graphs.Goals as goal

pub returns-clause-graph : goal.returns-clause-graph
returns-clause-graph c count edited command numbers order are = is_graph count command numbers order are edited

pub returns-clause-count : goal.returns-clause-count
returns-clause-count c count edited command numbers order are = graph_count count command numbers order are edited

pub returns-clause-every : goal.returns-clause-every
returns-clause-every c count command numbers order number are = number_placed count command numbers order are number

pub returns-clause-entries : goal.returns-clause-entries
returns-clause-entries c count edited command numbers order are = both_said count command numbers order are edited

pub returns-clause-uses : goal.returns-clause-uses
returns-clause-uses c count edited command numbers order are = entry_uses count command numbers order are edited

pub returns-clause-edit : goal.returns-clause-edit
returns-clause-edit c count edited command numbers order position are = is_edit count command numbers order are edited position
