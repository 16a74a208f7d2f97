-- Two faults of a text are the same.
use Rattle.vhdl_spec.proofs.Cut.{one_fault}
use Rattle.vhdl_spec.proofs.laws.one_fault.Goals as goal

pub returns : goal.returns
returns c = one_fault
