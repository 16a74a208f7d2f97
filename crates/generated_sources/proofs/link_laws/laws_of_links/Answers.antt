-- The links of the generated project.
use Rattle.generated_sources.proofs.Linked.{all_numbers, links_are, numbered_found}
use Rattle.generated_sources.proofs.Orders.{has_order}
use Rattle.generated_sources.proofs.link_laws.laws_of_links.Goals as goal

pub returns-clause-scanned : goal.returns-clause-scanned
returns-clause-scanned c = numbered_found

pub returns-clause-linked : goal.returns-clause-linked
returns-clause-linked c = links_are

pub returns-clause-ordered : goal.returns-clause-ordered
returns-clause-ordered c = has_order

pub returns-clause-all : goal.returns-clause-all
returns-clause-all c = all_numbers
