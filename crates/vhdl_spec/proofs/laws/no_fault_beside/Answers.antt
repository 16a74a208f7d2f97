-- A text with a cut has no fault.
use Rattle.vhdl_spec.proofs.Cut.{no_cut_and_fault}
use Rattle.vhdl_spec.proofs.laws.no_fault_beside.Goals as goal

pub returns : goal.returns
returns c = no_cut_and_fault
