-- The compiler that is part of the program makes the artefact of each file.
use Rattle.headline.proofs.MadeNumbers.{makes_numbered}
use Rattle.headline.proofs.size_laws.laws_of_made_numbers.Goals as goal

pub returns : goal.returns
returns c answer count is small = makes_numbered answer is count small
