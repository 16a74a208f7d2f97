-- The outlines of files: their design units, what each names and mentions, and what it says of tests.
use Rattle.std.specs.Prelude.{◌≡◌, ℕ, ◌≤◌, List, [], ◌∷◌, ◌++◌, length, map, slice_get, Some}
use Rattle.std.specs.List.{All, flat_map}
use Rattle.base.specs.declared.design.Scan.{Scan}
use Rattle.base.specs.declared.design.Unit.{Unit as DesignUnit}
use Rattle.vhdl_spec.specs.References.{library_names}
use Rattle.vhdl_spec.specs.Scans.{AreScansOf}
use Rattle.vhdl_outline.specs.declared.unresolved.UnresolvedRefs.{UnresolvedRefs}
use Rattle.vhdl_outline.specs.UnresolvedRefs.{AreUnresolvedRefsOf, UnresolvedRefsLieIn}
use Rattle.vhdl_outline.specs.Runs.{UnitRunsLieIn, file_runs}
use Rattle.vhdl_outline.specs.declared.outlines.FileOutline.{FileOutline}
use Rattle.vhdl_outline.specs.declared.outlines.Outlines.{Outlines}
use Rattle.vhdl_outline.specs.declared.outlines.UnitScope.{UnitScope}

-- what a unit names
abbrev pub scope_of : List ℕ → Scan → DesignUnit → UnitScope
scope_of text scan unit = record { names = library_names text scan.tokens.list unit }

-- what the units of files name, file by file
abbrev pub scopes_of : List (List ℕ) → List Scan → List UnitScope
scopes_of (text ∷ texts) (scan ∷ scans) = map (scope_of text scan) scan.units ++ scopes_of texts scans
scopes_of (text ∷ texts) [] = []
scopes_of [] scans = []

-- what the units of all files name, as their outlines have it
abbrev pub file_scopes : List FileOutline → List UnitScope
file_scopes files = flat_map (λ file. file.scopes) files

-- what each unit of a scan mentions
pub record UnresolvedAreOf (text : List ℕ) (scan : Scan) (unresolved : List UnresolvedRefs) : Type 0 where
  pub each : length unresolved ≡ length scan.units
  pub are : (number : ℕ) (unit : DesignUnit) (one : UnresolvedRefs) → slice_get scan.units number ≡ Some unit → slice_get unresolved number ≡ Some one → AreUnresolvedRefsOf text scan.tokens.list unit one

-- the outline of a file of this text and scan
pub record IsOutlineOf (text : List ℕ) (scan : Scan) (file : FileOutline) : Type 0 where
  pub units : file.units ≡ scan.units
  pub scopes : file.scopes ≡ map (scope_of text scan) scan.units
  pub unresolved : UnresolvedAreOf text scan file.unresolved
  pub runs : file.runs ≡ file_runs text scan

-- each unit has unresolved references and testbench facts that lie within a text; the text has at least as many bytes as
-- units
pub record OutlineLiesIn (text : List ℕ) (file : FileOutline) : Type 0 where
  pub each : length file.unresolved ≡ length file.units
  pub few : length file.units ≤ length text
  pub unresolved : All (UnresolvedRefsLieIn text) file.unresolved
  pub each_runs : length file.runs.units ≡ length file.units
  pub runs : All (UnitRunsLieIn text) file.runs.units

-- the outlines of files of these texts and scans
pub record FilesAreOf (texts : List (List ℕ)) (scans : List Scan) (files : List FileOutline) : Type 0 where
  pub scanned : length scans ≡ length texts
  pub each : length files ≡ length texts
  pub are : (i : ℕ) (text : List ℕ) (scan : Scan) (file : FileOutline) → slice_get texts i ≡ Some text → slice_get scans i ≡ Some scan → slice_get files i ≡ Some file → IsOutlineOf text scan file

-- the tokens that are kept of each file lie in its text
pub record FilesLieIn (texts : List (List ℕ)) (files : List FileOutline) : Type 0 where
  pub each : length files ≡ length texts
  pub lie : (i : ℕ) (text : List ℕ) (file : FileOutline) → slice_get texts i ≡ Some text → slice_get files i ≡ Some file → OutlineLiesIn text file

-- the outline of each file: its units, what each names and mentions, and what they say of tests
pub record AreOutlinesOf (texts : List (List ℕ)) (scans : List Scan) (outlines : Outlines) : Type 0 where
  pub files : FilesAreOf texts scans outlines.files

-- these texts have scans, and the outlines are those of texts and scans
pub record AreOutlined (texts : List (List ℕ)) (outlines : Outlines) : Type 0 where
  pub scans : List Scan
  pub scanned : AreScansOf texts scans
  pub are : AreOutlinesOf texts scans outlines
  pub lie : FilesLieIn texts outlines.files

-- the outline of one more file was added
pub record HasAdded (text : List ℕ) (scan : Scan) (old new : Outlines) : Type 0 where
  pub file : FileOutline
  pub is : IsOutlineOf text scan file
  pub lies : OutlineLiesIn text file
  pub files : new.files ≡ old.files ++ file ∷ []
