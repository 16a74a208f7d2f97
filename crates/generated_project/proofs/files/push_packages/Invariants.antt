-- So far the packages up to the number before the next one.
use Rattle.std.proofs.Common.{◌≡◌, ◌++◌}
use Rattle.generated_project.specs.Files.{packages}
use Rattle.generated_project.proofs.files.push_packages.Given as goal

abbrev pub invariant-loop-before : goal.invariant-loop-before
invariant-loop-before l = l.files ≡ l.fn.files ++ packages l.edited l.before
