-- What the steps of reading give, and what each answer comes of.
use Rattle.std.specs.Prelude.{◌≡◌, ℕ, ◌≤◌, nat_le, if◌then◌else◌, List, length, Result, Ok, Err}
use Rattle.base.specs.Projects.{IsProject}
use Rattle.base.specs.declared.design.Scan.{Scan}
use Rattle.base_outcomes.specs.declared.outcome.Limit.TheVariants as limit
use Rattle.base.specs.declared.project.Project.{Project}
use Rattle.outside.specs.Counts.{Counted}
use Rattle.order.specs.LinkedGraph.{FitTexts}
use Rattle.vhdl_spec.specs.Scans.{AreScansOf}
use Rattle.base.specs.declared.limits.TheConstants.{FILE_LIMIT}
use Rattle.project_reading.specs.Reading.{SourceReading, Stops, Over, Found, scanned_reading}
use Rattle.project_reading.specs.declared.linking.ReadProject.{ReadProject}
use Rattle.project_reading.specs.declared.stops.ReadStop.{ReadStop}
use Rattle.project_reading.specs.declared.query.Query.{Query}
use Rattle.project_reading.specs.declared.stops.ReadStop.TheVariants as stop

-- what was read is what there is to read; after a fault and out of memory nothing is owed
abbrev pub Gives : {T : Type 0} → Result T SourceReading → Result T ReadStop → Type 0
Gives whole (Ok value) = whole ≡ Ok value
Gives whole (Err (stop.Refused reason)) = whole ≡ Err (Stops reason)
Gives whole (Err (stop.Over limit number)) = whole ≡ Err (Over limit number)
Gives whole (Err stop.Failed) = Unit {0}
Gives whole (Err stop.NoMemory) = Unit {0}

-- a project, or that it has more files than may be
abbrev pub few_project : Result Project SourceReading → Result Project SourceReading
few_project (Ok project) = if nat_le (length project.files) FILE_LIMIT then Ok project else Err (Over limit.Files FILE_LIMIT)
few_project (Err reading) = Err reading

-- the project was read, or why it can't be: a refusal, or a limit that is passed, which may be that of its files
abbrev pub GivesProject : Result Project SourceReading → Result Project ReadStop → Type 0
GivesProject whole (Ok project) = whole ≡ Ok project
GivesProject whole (Err stop) = Gives {T = Project} (few_project whole) (Err stop)

-- The reading is what was answered: a project, a refusal, or a limit that is passed. After a fault and out of memory
-- nothing is owed.
abbrev pub LeadsTo : SourceReading → Result ReadProject ReadStop → Type 0
LeadsTo whole (Ok read) = whole ≡ Found read
LeadsTo whole (Err (stop.Refused reason)) = whole ≡ Stops reason
LeadsTo whole (Err (stop.Over limit number)) = whole ≡ Over limit number
LeadsTo whole (Err stop.Failed) = Unit {0}
LeadsTo whole (Err stop.NoMemory) = Unit {0}

-- After each answer: the tree's fault was counted, and else its count is unchanged.
abbrev pub ReadCounts : {T : Type 0} → Result T ReadStop → ℕ → ℕ → Type 0
ReadCounts (Ok value) before now = now ≡ before
ReadCounts (Err (stop.Refused reason)) before now = now ≡ before
ReadCounts (Err (stop.Over limit number)) before now = now ≡ before
ReadCounts (Err stop.Failed) before now = Counted before now
ReadCounts (Err stop.NoMemory) before now = now ≡ before

-- no refusal, and no limit that is passed
abbrev pub IsPlain : {T : Type 0} → Result T ReadStop → Type 0
IsPlain (Ok value) = Unit {0}
IsPlain (Err (stop.Refused reason)) = ⊥
IsPlain (Err (stop.Over limit number)) = ⊥
IsPlain (Err stop.Failed) = Unit {0}
IsPlain (Err stop.NoMemory) = Unit {0}

-- What was read is a project with its graph, warnings and tests, as some texts and their scans give them, whatever the
-- tree tells.
pub record IsReadProject (query : Query) (read : ReadProject) : Type 0 where
  pub project : IsProject read.project
  pub few : length read.project.files ≤ FILE_LIMIT
  pub texts : List (List ℕ)
  pub fit : FitTexts read.project.files texts
  pub scans : List Scan
  pub scanned : AreScansOf texts scans
  pub whole : scanned_reading query read.project texts scans ≡ Found read
