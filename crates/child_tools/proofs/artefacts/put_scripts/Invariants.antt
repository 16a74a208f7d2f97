-- The lines of the comments up to the index are put.
use Rattle.std.proofs.Common.{◌≡◌, ◌++◌, take}
use Rattle.std.specs.List.{flat_map}
use Rattle.child_tools.specs.Artefacts.{comment_line}
use Rattle.child_tools.proofs.artefacts.put_scripts.Given as goal

abbrev pub invariant-loop-span : goal.invariant-loop-span
invariant-loop-span l = l.out.items ≡ l.initial.out.items ++ flat_map (comment_line l.text) (take l.span-index l.tokens.comments)
