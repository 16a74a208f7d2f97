-- Two faults of the grammar are the same.
use Rattle.vhdl_spec.proofs.Files.{one_unit_fault}
use Rattle.vhdl_spec.proofs.laws.one_unit_fault.Goals as goal

pub returns : goal.returns
returns c = one_unit_fault
