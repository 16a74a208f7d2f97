-- The paths of the generated files are texts.
use Rattle.std.proofs.Common.{List, sym, subst, arith}
use Rattle.base.specs.declared.file.NamedText.{NamedText}
use Rattle.memory_outside.specs.Trees.{HavePaths}
use Rattle.generated_project.proofs.Paths.{generated_have}
use Rattle.generated_project.proofs.tree.GeneratedTree.new.Goals as goal

pub new-requires-2 : goal.new-requires-2
new-requires-2 c = subst (λ (files : List NamedText). HavePaths files) (sym c.in_ok-files.ensures) (generated_have c.args.packages c.args.edited (omega (arith, c.ranges.packages.fits)))
