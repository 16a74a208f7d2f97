-- Tokens have an outline or a fault of the grammar.
use Rattle.vhdl_spec.proofs.Outlines.{outline_or_fault}
use Rattle.vhdl_spec.proofs.laws.outline_or_fault.Goals as goal

pub returns : goal.returns
returns c = outline_or_fault
