-- Joined lexical elements are the text.
use Rattle.vhdl_spec.proofs.Joined.{joined}
use Rattle.vhdl_spec.proofs.laws.joined_lexical_elements.Goals as goal

pub returns : goal.returns
returns c = joined
