-- Two cuts of a text are the same.
use Rattle.vhdl_spec.proofs.Cut.{one_cut}
use Rattle.vhdl_spec.proofs.laws.one_cut.Goals as goal

pub returns : goal.returns
returns c = one_cut
