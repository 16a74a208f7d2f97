-- Each text has a cut or a fault.
use Rattle.vhdl_spec.proofs.Exists.{cut_or_fault}
use Rattle.vhdl_spec.proofs.laws.cut_or_fault.Goals as goal

pub returns : goal.returns
returns c = cut_or_fault
