-- The references at the indices up to the index.
use Rattle.std.proofs.Common.{◌≡◌, ◌++◌, map, take}
use Rattle.vhdl_spec.specs.References.{ref_at}
use Rattle.vhdl_outline.proofs.refs.push_refs.Given as goal

abbrev pub invariant-loop-token_index : goal.invariant-loop-token_index
invariant-loop-token_index l = l.refs.items ≡ l.initial.refs.items ++ map (λ token_index. ref_at l.text l.tokens.list l.kind token_index.at) (take l.token_index-index l.indices)
