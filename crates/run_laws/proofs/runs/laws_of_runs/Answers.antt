-- Answers to the goals of `laws_of_runs`.
use Rattle.run_laws.proofs.SparedRuns.{nothing_started}
use Rattle.run_laws.proofs.StoppedRuns.{lasts, lasts_anew, end_acknowledged, start_acknowledged}
use Rattle.run_laws.proofs.runs.laws_of_runs.Goals as goal

pub returns-clause-lasts : goal.returns-clause-lasts
returns-clause-lasts c = λ world order run first name kept readable step file counts. lasts world name kept order run first readable file counts step

pub returns-clause-lasts_anew : goal.returns-clause-lasts_anew
returns-clause-lasts_anew c = λ world order run first name kept acknowledged broken committing readable build file. lasts_anew world name kept order run first build file acknowledged broken committing readable

pub returns-clause-fresh : goal.returns-clause-fresh
returns-clause-fresh c = nothing_started

pub returns-clause-acknowledged : goal.returns-clause-acknowledged
returns-clause-acknowledged c = λ world order run first build name only before after file named parts. end_acknowledged world order run first build name only file named before after parts

pub returns-clause-before_starts : goal.returns-clause-before_starts
returns-clause-before_starts c = start_acknowledged
