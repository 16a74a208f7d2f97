-- The clause that a token is in, determined from the tokens before it.
use Rattle.std.specs.Prelude.{◌≡◌, ℕ, ◌<◌, ◌≤◌, List, length}
use Rattle.std.specs.List.{list_any}
use Rattle.base.specs.declared.design.Role.{Role}
use Rattle.base.specs.declared.design.Unit.{Unit as DesignUnit}
use Rattle.base.specs.declared.limits.TheConstants.{TEXT_LIMIT}
use Rattle.vhdl_spec.specs.References.{back_to, clause_start, ends_item, is_context_word, is_in_name_list, is_in_use_list, is_library_word, is_semicolon}
use Rattle.vhdl_outline.specs.declared.clause.Clause.{Clause}
use Rattle.vhdl_outline.specs.declared.clause.Reached.{Reached}

-- what a walk knows at a token of the clause around it: where it begins, and which words are in it so far
pub record IsClauseAt (roles : List Role) (at : ℕ) (clause : Clause) : Type 0 where
  pub lists_names : clause.lists_names ≡ is_in_name_list roles at
  pub has_use : clause.has_use ≡ is_in_use_list roles at
  pub has_context : clause.has_context ≡ list_any is_context_word (back_to ends_item roles at)
  pub has_library : clause.has_library ≡ list_any is_library_word (back_to is_semicolon roles at)
  pub start : clause.start ≡ clause_start roles at
  pub within : clause.start ≤ at

-- a unit is among the tokens of a file that isn't too long, and a clause begins with its first one
pub record BeginsUnit (roles : List Role) (unit : DesignUnit) (clause : Clause) : Type 0 where
  pub led : unit.lead ≤ unit.first
  pub ordered : unit.first < unit.last
  pub within : unit.last < length roles
  pub small : length roles ≤ TEXT_LIMIT
  pub start : clause.start ≡ unit.lead
  pub at_start : IsClauseAt roles clause.start clause

-- clauses were followed up to a token, or to one before it
pub record HasReached (roles : List Role) (at : ℕ) (reached : Reached) : Type 0 where
  pub clause : IsClauseAt roles reached.at reached.clause
  pub before : reached.at ≤ at
