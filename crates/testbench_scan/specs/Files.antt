-- The files of a project and their design units, as the program holds them.
use Rattle.std.specs.Prelude.{◌≡◌, ◌<◌, ◌≤◌, true, false, is_some, None, List, [], length, slice_index_or}
use Rattle.std.specs.List.{All}
use Rattle.base.specs.declared.design.Scan.{Scan}
use Rattle.base.specs.declared.limits.TheConstants.{FILE_LIMIT}
use Rattle.base.specs.declared.refs.UnitId.{UnitId}
use Rattle.vhdl_outline.specs.Calls.{asks_same_sim}
use Rattle.vhdl_outline.specs.Runs.{unit_runs}
use Rattle.vhdl_outline.specs.declared.runs.UnitFacts.{UnitFacts}
use Rattle.vhdl_outline.specs.Outlines.{FilesAreOf, FilesLieIn}
use Rattle.vhdl_outline.specs.Roles.{IsTextSmall}
use Rattle.vhdl_outline.specs.declared.outlines.FileOutline.{FileOutline}
use Rattle.testbench_scan.specs.Benches.{ScannedFiles, design_unit, unit_library, unit_scan, unit_text, unit_tokens}
use Rattle.testbench_scan.specs.declared.files.Files.{Files}
use Rattle.testbench_scan.specs.declared.files.Found.{Found}

-- one text and one outline for each file; an outline can be read of its text
pub record AreFiles (files : Files) : Type 0 where
  pub few : length files.project.now.files ≤ FILE_LIMIT
  pub each : length files.texts.now ≡ length files.project.now.files
  pub small : All IsTextSmall files.texts.now
  pub lie : FilesLieIn files.texts.now files.outlines.now

-- the outlines are those of these scans
abbrev pub AreScannedAs : Files → List Scan → Type 0
AreScannedAs files scans = FilesAreOf files.texts.now scans files.outlines.now

-- the files of a project with their texts and these scans
abbrev pub scanned : Files → List Scan → ScannedFiles
scanned files scans = record { files = files.project.now.files; texts = files.texts.now; scans = scans }

-- the testbench facts of a unit that is not a bench and calls no case
abbrev pub no_runs : UnitFacts
no_runs = record { bench = None; strings = [] }

-- an outline without units, for a position that no file has
abbrev pub no_outline : FileOutline
no_outline = record { units = []; scopes = []; unresolved = []; runs = record { units = []; same_sim = false } }

-- the outline of the file that a unit is in
abbrev pub outline_at : Files → UnitId → FileOutline
outline_at files id = slice_index_or files.outlines.now id.file no_outline

-- what the unit of a number says of tests
abbrev pub runs_at : Files → UnitId → UnitFacts
runs_at files id = slice_index_or (outline_at files id).runs.units id.unit no_runs

-- there is a unit of the number
pub record IsInFiles (files : Files) (id : UnitId) : Type 0 where
  pub file : id.file < length files.outlines.now
  pub unit : id.unit < length (outline_at files id).units

-- there is a unit of each number
abbrev pub AreInFiles : Files → List UnitId → Type 0
AreInFiles files ids = All (IsInFiles files) ids

-- the unit of a number: its library, its text, its design unit, its testbench facts, and whether its file asks for one
-- simulation
pub record IsLocated (sources : ScannedFiles) (id : UnitId) (found : Found) : Type 0 where
  pub library : found.library.now ≡ unit_library sources id
  pub text : found.text.now ≡ unit_text sources id
  pub unit : found.unit.now ≡ design_unit sources id
  pub runs : found.runs.now ≡ unit_runs (unit_text sources id) (unit_tokens sources id) (design_unit sources id)
  pub same_sim : found.same_sim ≡ asks_same_sim (unit_text sources id) (unit_scan sources id).tokens.comments

-- the unit of a number is a bench
abbrev pub IsNamed : Files → UnitId → Type 0
IsNamed files id = is_some (runs_at files id).bench ≡ true

-- the unit of each number is a bench
abbrev pub AreNamed : Files → List UnitId → Type 0
AreNamed files ids = All (IsNamed files) ids
