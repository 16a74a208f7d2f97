-- Tokens with an outline have no fault of the grammar.
use Rattle.vhdl_spec.proofs.Files.{no_outline_and_fault}
use Rattle.vhdl_spec.proofs.laws.no_unit_fault_beside.Goals as goal

pub returns : goal.returns
returns c = no_outline_and_fault
