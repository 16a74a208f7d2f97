-- The units have a fault.
use Rattle.child_tools.proofs.AnswerLemmas.{units_found}
use Rattle.child_tools.proofs.analysing.scan_units.Goals as goal

pub returns-clause-scan : goal.returns-clause-scan
returns-clause-scan c = units_found c.args.text.now c.args.tokens _ c.requires.tokens (rw c.in-Err-Fault.field-0-is at c.in-Err-Fault.ensures.right)
