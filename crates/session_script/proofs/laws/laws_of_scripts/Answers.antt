-- The laws of scripts.
use Rattle.session_script.proofs.NextLines.{next_long, next_many, next_taken}
use Rattle.session_script.proofs.ScriptSteps.{script_step}
use Rattle.session_script.proofs.laws.laws_of_scripts.Goals as goal

pub returns-clause-step : goal.returns-clause-step
returns-clause-step c = script_step

pub returns-clause-taken : goal.returns-clause-taken
returns-clause-taken c = next_taken

pub returns-clause-long : goal.returns-clause-long
returns-clause-long c = next_long

pub returns-clause-many : goal.returns-clause-many
returns-clause-many c = next_many
