-- The libraries of the files up to the index are there, and that of the last of them is.
use Rattle.std.proofs.Common.{◌≡◌, true, take}
use Rattle.child_tools.specs.Flags.{has_key}
use Rattle.child_tools.proofs.MissingLemmas.{AreThere}
use Rattle.child_tools.proofs.exports.libraries_of.Given as goal

abbrev pub invariant-loop-file : goal.invariant-loop-file
invariant-loop-file l = record {
  all : AreThere (take l.file-index l.files) l.library l.libraries;
  before : has_key l.libraries l.before ≡ true;
}
