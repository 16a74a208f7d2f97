-- Answers to the goals of `laws_of_parts`.
use Rattle.project_views.proofs.Parts.{part_is_graph}
use Rattle.project_views.proofs.ViewLaws.{viewed_is_part, part_of_part}
use Rattle.project_views.proofs.closed_parts.laws_of_parts.Goals as goal

pub returns-clause-graph : goal.returns-clause-graph
returns-clause-graph c = λ graph positions valid is. part_is_graph graph positions is valid

pub returns-clause-viewed : goal.returns-clause-viewed
returns-clause-viewed c = viewed_is_part

pub returns-clause-within : goal.returns-clause-within
returns-clause-within c = part_of_part
