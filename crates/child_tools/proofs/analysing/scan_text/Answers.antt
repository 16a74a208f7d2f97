-- The tokens have a fault.
use Rattle.child_tools.proofs.AnswerLemmas.{lexical_found}
use Rattle.child_tools.proofs.analysing.scan_text.Goals as goal

pub returns-in-Err-Fault-clause-scan : goal.returns-in-Err-Fault-clause-scan
returns-in-Err-Fault-clause-scan c = lexical_found c.args.text.now _ (rw c.in-Err-Fault.field-0-is at c.in-Err-Fault.ensures.right)
