-- What the files up to the index say is added.
use Rattle.std.proofs.Common.{take}
use Rattle.child_tools.specs.Benches.{fails}
use Rattle.child_tools.specs.Failures.{Takes}
use Rattle.child_tools.proofs.failures.take_files.Given as goal

abbrev pub invariant-loop-file : goal.invariant-loop-file
invariant-loop-file l = Takes l.wanted (fails (take l.file-index l.files)) l.initial.failing l.failing
