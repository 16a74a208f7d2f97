-- So far the units up to the number are taken up.
use Rattle.std.proofs.Common.{◌≡◌, Some, Ok, List, take}
use Rattle.std.specs.Prelude.{⊤, slice_get}
use Rattle.base.specs.declared.design.Scan.{Scan}
use Rattle.base.specs.declared.project.ProjectFile.{ProjectFile}
use Rattle.vhdl_spec.specs.Dependencies.{LinkUnit, link_unit}
use Rattle.vhdl_outline.specs.Outlines.{IsOutlineOf}
use Rattle.vhdl_graph.specs.Linking.{FileGives, Knows, StandAll}
use Rattle.vhdl_graph.proofs.units.link_file.Given as goal

abbrev pub invariant-loop-number : goal.invariant-loop-number
invariant-loop-number l = (units : List LinkUnit) (named : ProjectFile) (scan : Scan) → IsOutlineOf l.text scan l.outline → Knows l.project units l.tables → slice_get l.project.files l.file ≡ Some named → StandAll units l.tables l.file named l.text scan →
    FileGives {T = ⊤} l.project units (link_unit l.file named l.text scan) (take l.number scan.units) l.initial.row l.row l.initial.warnings l.warnings (Ok tt)
