-- So far the links for the references up to the index.
use Rattle.std.proofs.Common.{map, take}
use Rattle.vhdl_outline.specs.UnresolvedRefs.{named_ref}
use Rattle.vhdl_scope.specs.Names.{keys_of}
use Rattle.vhdl_scope.specs.Joins.{HasLinked}
use Rattle.vhdl_scope.specs.Wants.{context_want}
use Rattle.vhdl_scope.proofs.linking.add_context_links.Given as goal

abbrev pub invariant-loop-named : goal.invariant-loop-named
invariant-loop-named l = HasLinked (keys_of l.names) l.groups l.row_indices (map (λ named. context_want l.library (named_ref l.text named)) (take l.named-index l.found)) l.initial.links l.links
