-- So far the units of the files up to the position.
use Rattle.std.proofs.Common.{List, take}
use Rattle.std.specs.List.{AllZip}
use Rattle.base.specs.declared.design.Scan.{Scan}
use Rattle.vhdl_spec.specs.Visibility.{scope_units}
use Rattle.vhdl_outline.specs.Outlines.{FilesAreOf}
use Rattle.vhdl_scope.specs.Names.{keys_of}
use Rattle.vhdl_scope.specs.Joins.{IsLinkedFor}
use Rattle.vhdl_scope.proofs.linking.links_of_units.Given as goal

abbrev pub invariant-loop-file : goal.invariant-loop-file
invariant-loop-file l = (scans : List Scan) → FilesAreOf l.texts scans l.files → AllZip (IsLinkedFor (keys_of l.names) l.groups l.row_indices) l.links.items (scope_units (take l.file l.project.files) (take l.file l.texts) (take l.file scans))
