-- Two outlines of tokens are the same.
use Rattle.vhdl_spec.proofs.Files.{one_outline}
use Rattle.vhdl_spec.proofs.laws.one_outline.Goals as goal

pub returns : goal.returns
returns c = one_outline
