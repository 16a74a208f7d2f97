-- What scanning a file gives.
use Rattle.std.specs.Prelude.{◌≡◌, ℕ, List, Result, Ok, Err}
use Rattle.base.specs.declared.file.FileName.{FileName}
use Rattle.base.specs.declared.design.Scan.{Scan}
use Rattle.base.specs.declared.project.ProjectFile.{ProjectFile}
use Rattle.vhdl_spec.specs.Scans.{AreScansOf, Finding, IsFinding, IsScanOf, IsScanner}
use Rattle.vhdl_outline.specs.declared.outlines.Outlines.{Outlines}
use Rattle.vhdl_outline.specs.Outlines.{AreOutlinesOf, FilesLieIn}
use Rattle.project_reading.specs.Reading.{Stops, scan_of, scans_of}
use Rattle.project_reading.specs.Sources.{Gives}
use Rattle.project_reading.specs.declared.stops.ReadStop.{ReadStop}
use Rattle.project_reading.specs.declared.stops.ReadStop.TheVariants as stop

-- the scan of the text, or the refusal of what is found in it; after out of memory nothing is owed
abbrev pub GivesScan : FileName → List ℕ → Result Scan ReadStop → Type 0
GivesScan name text (Ok scan) = IsScanOf text scan
GivesScan name text (Err (stop.Refused reason)) = (finding : Finding) × IsFinding text finding × (scan_of name finding ≡ Err (Stops reason))
GivesScan name text (Err (stop.Over limit number)) = ⊥
GivesScan name text (Err stop.Failed) = ⊥
GivesScan name text (Err stop.NoMemory) = Unit {0}

-- The outlines of files of these texts. A scanner gives each of the scans that they are made of.
pub record AreScanned (files : List ProjectFile) (texts : List (List ℕ)) (outlines : Outlines) : Type 0 where
  pub scans : List Scan
  pub scanned : AreScansOf texts scans
  pub are : AreOutlinesOf texts scans outlines
  pub lie : FilesLieIn texts outlines.files
  pub given : (scan : List ℕ → Finding) → IsScanner scan → scans_of scan files texts ≡ Ok scans

-- the outlines of the files, or why they can't be had; after a fault or out of memory nothing is owed
abbrev pub GivesOutlines : List ProjectFile → List (List ℕ) → Result Outlines ReadStop → Type 0
GivesOutlines files texts (Ok outlines) = AreScanned files texts outlines
GivesOutlines files texts (Err reason) = (scan : List ℕ → Finding) → IsScanner scan → Gives {T = List Scan} (scans_of scan files texts) (Err reason)
