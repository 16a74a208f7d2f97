use Rattle.project_reading.proofs.ScanLemmas.{lexical_found}
use Rattle.project_reading.proofs.scanning.scan_file.Goals as goal

pub returns-in_ok-lexical-in-Err-Fault-clause-scan : goal.returns-in_ok-lexical-in-Err-Fault-clause-scan
returns-in_ok-lexical-in-Err-Fault-clause-scan c = lexical_found c.args.text.now _ c.args.file.now _ (rw c.in-Err-Fault.field-0-is at c.in-Err-Fault.ensures.right) c.in_ok-lexical-in-Err-Fault.ensures
