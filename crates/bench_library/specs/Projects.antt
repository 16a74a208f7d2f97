-- The results that C gets for a project that is one text, with the offsets at which its files end.
use Rattle.std.specs.Prelude.{◌≡◌, ℕ, ◌-◌, Bool, List, [], ◌∷◌, codes, drop, length, take}
use Rattle.std.specs.List.{All}
use Rattle.base.specs.declared.design.Scan.{Scan}
use Rattle.base.specs.declared.project.ProjectFile.{ProjectFile}
use Rattle.vhdl_spec.specs.Scans.{AreScansOf, IsScanOf}
use Rattle.vhdl_spec.specs.Visibility.{ScopeUnit, scope_units, sees as unit_sees}
use Rattle.vhdl_outline.specs.declared.outlines.Outlines.{Outlines}
use Rattle.vhdl_outline.specs.Outlines.{HasAdded}
use Rattle.vhdl_scope.specs.Tables.{IsUnitAt}

-- the files of a text from a place on, which end at places
abbrev pub parts_at : List ℕ → ℕ → List ℕ → List (List ℕ)
parts_at text from [] = []
parts_at text from (end ∷ ends) = take (end - from) (drop from text) ∷ parts_at text end ends

-- the files have scans
pub record HasScans (text ends : List ℕ) : Type 0 where
  pub scans : List Scan
  pub are : AreScansOf (parts_at text 0 ends) scans

-- whether the first unit of the first file, if there is one, sees a library, where all files are of library `l`
pub record HasSight (text ends library : List ℕ) (sees : Bool) : Type 0 where
  pub files : List ProjectFile
  pub each : length files ≡ length (parts_at text 0 ends)
  pub library_is : All (λ file. file.name.library ≡ codes "l") files
  pub scans : List Scan
  pub are : AreScansOf (parts_at text 0 ends) scans
  pub exactly : (user : ScopeUnit) → IsUnitAt files (parts_at text 0 ends) scans (record { file = 0; unit = 0 }) user → sees ≡ unit_sees (scope_units files (parts_at text 0 ends) scans) user library

-- the outline of a text that has a scan was added
pub record HasOutlined (text : List ℕ) (old new : Outlines) : Type 0 where
  pub scan : Scan
  pub is : IsScanOf text scan
  pub added : HasAdded text scan old new
