-- Answers to the goals of `laws_of_stops`.
use Rattle.run_laws.proofs.Moments.{left_by_kill, left_by_power}
use Rattle.run_laws.proofs.runs.laws_of_stops.Goals as goal

pub returns-clause-kill : goal.returns-clause-kill
returns-clause-kill c = left_by_kill

pub returns-clause-power : goal.returns-clause-power
returns-clause-power c = left_by_power
