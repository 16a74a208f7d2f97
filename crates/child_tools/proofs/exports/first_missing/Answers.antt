-- With the libraries and units of one more file added, the first missing unit is found for all files.
use Rattle.std.proofs.Common.{◌++◌, ◌∷◌, []}
use Rattle.child_tools.proofs.exports.first_missing.Goals as goal

pub returns : goal.returns
returns c last name artefact = c.first_of.ensures (c.args.files.now ++ last ∷ []) (c.in_ok-libraries.ensures last name) (c.in_ok-flags.ensures last name artefact)
