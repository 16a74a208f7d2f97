-- The outcome and text of a run with the generated project of each size.
use Rattle.headline.proofs.Answered.{answered}
use Rattle.headline.proofs.SaidOfSizes.{said_of}
use Rattle.headline.proofs.size_laws.laws_of_generated_projects.Goals as goal

pub returns-clause-said : goal.returns-clause-said
returns-clause-said c start scan answer options said events scans is some low = said_of scan scans answer is options some low said events

pub returns-clause-answered : goal.returns-clause-answered
returns-clause-answered c start scan answer options result events old new = answered scan answer options result c.O.Sink.tells events old new
