-- Answers to the goals of `examples_of_graphs`.
use Rattle.tests_examples.proofs.Graphs.{listed_files, orders, ways, views}
use Rattle.tests_examples.proofs.chapters.examples_of_graphs.Goals as goal

pub returns-clause-listed_files : goal.returns-clause-listed_files
returns-clause-listed_files c = listed_files

pub returns-clause-orders : goal.returns-clause-orders
returns-clause-orders c = orders

pub returns-clause-ways : goal.returns-clause-ways
returns-clause-ways c = ways

pub returns-clause-views : goal.returns-clause-views
returns-clause-views c = views
