-- So far the members up to the index.
use Rattle.std.proofs.Common.{Bool, List}
use Rattle.std.specs.List.{AllZip}
use Rattle.vhdl_spec.specs.Visibility.{ScopeUnit}
use Rattle.vhdl_scope.specs.Joins.{AreMembersTo}
use Rattle.vhdl_scope.specs.Owned.{IsOwnedBy}
use Rattle.vhdl_scope.proofs.joins.group_links.Given as goal

abbrev pub invariant-loop-at : goal.invariant-loop-at
invariant-loop-at l = (keeps : Bool) (users : List ScopeUnit) → AllZip (IsOwnedBy keeps l.groups) l.owned users → AreMembersTo keeps l.at l.groups users l.library_number l.members.items
