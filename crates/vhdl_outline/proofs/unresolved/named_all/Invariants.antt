-- The references at the indices up to the index.
use Rattle.std.proofs.Common.{◌≡◌, map, take}
use Rattle.std.specs.List.{All}
use Rattle.vhdl_spec.specs.References.{ref_at}
use Rattle.vhdl_outline.specs.UnresolvedRefs.{NamedLiesIn, named_ref}
use Rattle.vhdl_outline.proofs.unresolved.named_all.Given as goal

abbrev pub invariant-loop-token_index : goal.invariant-loop-token_index
invariant-loop-token_index l = record {
  are : map (named_ref l.text) l.found.items ≡ map (λ token_index. ref_at l.text l.tokens.list l.kind token_index.at) (take l.token_index-index l.indices);
  lie : All (NamedLiesIn l.text) l.found.items;
}
