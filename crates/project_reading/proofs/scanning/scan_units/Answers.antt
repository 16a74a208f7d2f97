use Rattle.project_reading.proofs.ScanLemmas.{units_found}
use Rattle.project_reading.proofs.scanning.scan_units.Goals as goal

pub returns-clause-scan : goal.returns-clause-scan
returns-clause-scan c = units_found c.args.text.now c.args.tokens _ c.args.file.now _ c.requires.tokens (rw c.in-Err-Fault.field-0-is at c.in-Err-Fault.ensures.right) c.in_ok-grammatical-in-Err-Fault.ensures
