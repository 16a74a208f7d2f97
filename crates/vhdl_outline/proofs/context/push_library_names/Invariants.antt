-- The names so far, and the clause here.
use Rattle.std.proofs.Common.{◌≡◌, ◌++◌, map}
use Rattle.vhdl_spec.specs.References.{is_library_name, indices}
use Rattle.vhdl_spec.specs.Units.{name_of, roles_of}
use Rattle.vhdl_outline.specs.Clauses.{IsClauseAt}
use Rattle.vhdl_outline.proofs.context.push_library_names.Given as goal

abbrev pub invariant-loop-at : goal.invariant-loop-at
invariant-loop-at l = record {
  clause : IsClauseAt l.roles l.at l.clause;
  found : l.names.items ≡ l.initial.names.items ++ map (name_of l.text l.tokens.list) (indices (is_library_name (roles_of l.text l.tokens.list) l.first) l.fn.clause.start l.at);
}
