-- The indices so far, and the clause here.
use Rattle.std.proofs.Common.{◌≡◌, ◌++◌, map}
use Rattle.vhdl_spec.specs.References.{is_context_ref, indices}
use Rattle.vhdl_outline.specs.Clauses.{IsClauseAt}
use Rattle.vhdl_outline.specs.Indices.{AreRefIndices, ref_index}
use Rattle.vhdl_outline.proofs.context.push_context_indices.Given as goal

abbrev pub invariant-loop-at : goal.invariant-loop-at
invariant-loop-at l = record {
  clause : IsClauseAt l.roles l.at l.clause;
  after : AreRefIndices l.roles l.found.items;
  found : l.found.items ≡ l.initial.found.items ++ map (ref_index l.roles) (indices (is_context_ref l.roles) l.fn.clause.start l.at);
}
