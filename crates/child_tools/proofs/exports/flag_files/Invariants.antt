-- The units that the files up to the index export are marked.
use Rattle.std.proofs.Common.{take}
use Rattle.child_tools.specs.Exports.{exports}
use Rattle.child_tools.specs.Flags.{Flags}
use Rattle.child_tools.proofs.exports.flag_files.Given as goal

abbrev pub invariant-loop-file : goal.invariant-loop-file
invariant-loop-file l = Flags (exports (take l.file-index l.files)) l.initial.flags l.flags
