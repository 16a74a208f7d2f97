-- So far the units up to the number.
use Rattle.std.proofs.Common.{◌++◌, List, map, take}
use Rattle.std.specs.List.{AllZip}
use Rattle.base.specs.declared.design.Scan.{Scan}
use Rattle.vhdl_spec.specs.Visibility.{ScopeUnit, scope_unit}
use Rattle.vhdl_outline.specs.Outlines.{IsOutlineOf}
use Rattle.vhdl_scope.specs.Names.{keys_of}
use Rattle.vhdl_scope.specs.Joins.{IsLinkedFor}
use Rattle.vhdl_scope.proofs.linking.add_links.Given as goal

abbrev pub invariant-loop-number : goal.invariant-loop-number
invariant-loop-number l = (scan : Scan) (units : List ScopeUnit) → IsOutlineOf l.text scan l.file → AllZip (IsLinkedFor (keys_of l.names) l.groups l.row_indices) l.initial.links.items units → AllZip (IsLinkedFor (keys_of l.names) l.groups l.row_indices) l.links.items (units ++ map (scope_unit l.library l.text scan) (take l.number scan.units))
