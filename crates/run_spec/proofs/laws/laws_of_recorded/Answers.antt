-- Answers to the goals of `laws_of_recorded`.
use Rattle.run_spec.proofs.SameAsked.{same_asked}
use Rattle.run_spec.proofs.RecordedArtefacts.{record_of_current, current_of_record}
use Rattle.run_spec.proofs.laws.laws_of_recorded.Goals as goal

pub returns-clause-same : goal.returns-clause-same
returns-clause-same c = same_asked

pub returns-clause-current : goal.returns-clause-current
returns-clause-current c latest_of graph at entry built artefact is = (record_of_current latest_of graph at entry built is artefact, current_of_record latest_of graph at entry built is artefact)
