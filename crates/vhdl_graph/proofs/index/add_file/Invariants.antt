-- So far the units up to the index are added.
use Rattle.std.proofs.Common.{◌≡◌, ◌++◌, ℕ, List, length, map, take}
use Rattle.std.specs.Prelude.{slice_get, Some}
use Rattle.base.specs.declared.design.Scan.{Scan}
use Rattle.base.specs.declared.project.ProjectFile.{ProjectFile}
use Rattle.vhdl_spec.specs.Dependencies.{LinkUnit, first_duplicate, link_unit}
use Rattle.vhdl_graph.specs.Indexes.{ArePositionsOfFiles, IsIndex}
use Rattle.vhdl_graph.proofs.index.add_file.Given as goal

abbrev pub invariant-loop-unit : goal.invariant-loop-unit
invariant-loop-unit l = record {
  indices : ArePositionsOfFiles (length l.project.files) l.index;
  added : (units : List LinkUnit) (named : ProjectFile) (text : List ℕ) (scan : Scan) → IsIndex l.project.files units l.initial.index → slice_get l.project.files l.file ≡ Some named →
      IsIndex l.project.files (units ++ map (link_unit l.file named text scan) (take l.unit-index l.designs)) l.index
      × ((rest : List LinkUnit) → first_duplicate units (map (link_unit l.file named text scan) (take l.unit-index l.designs) ++ rest) ≡ first_duplicate (units ++ map (link_unit l.file named text scan) (take l.unit-index l.designs)) rest);
}
