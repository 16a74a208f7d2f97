-- Answers to the goal of `laws_of_program`.
use Rattle.headline.proofs.ChainTruths.{right_from_empty}
use Rattle.headline.proofs.program_laws.laws_of_program.Goals as goal

pub returns : goal.returns
returns c = record { from_empty = right_from_empty }
