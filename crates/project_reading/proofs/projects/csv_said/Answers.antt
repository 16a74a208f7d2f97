use Rattle.project_reading.proofs.projects.csv_said.Goals as goal

pub returns-in-Err-clause-project : goal.returns-in-Err-clause-project
returns-in-Err-clause-project c = c.project_stop.ensures.stop _ c.in-Err.ensures.project
