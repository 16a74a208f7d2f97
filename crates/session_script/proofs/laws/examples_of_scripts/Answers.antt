-- Scripts of small inputs, by computation.
use Rattle.session_script.proofs.ScriptExamples.{command_examples, limit_examples, put_examples}
use Rattle.session_script.proofs.laws.examples_of_scripts.Goals as goal

pub returns-clause-commands : goal.returns-clause-commands
returns-clause-commands c = command_examples

pub returns-clause-puts : goal.returns-clause-puts
returns-clause-puts c = put_examples

pub returns-clause-limits : goal.returns-clause-limits
returns-clause-limits c = limit_examples
