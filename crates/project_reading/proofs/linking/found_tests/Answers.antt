use Rattle.std.proofs.Common.{ap}
use Rattle.project_reading.specs.Reading.{tests_or}
use Rattle.project_reading.proofs.linking.found_tests.Goals as goal

pub returns-in-Err-Fault-clause-tests : goal.returns-in-Err-Fault-clause-tests
returns-in-Err-Fault-clause-tests c scans are = ap tests_or (rw c.in-Err-Fault.field-0-is at c.in-Err-Fault.ensures scans are)
