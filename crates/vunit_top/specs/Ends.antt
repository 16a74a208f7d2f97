-- What the parts of a run put and answer.
use Rattle.std.specs.Prelude.{◌≡◌, ℕ, List, Option, Some, None, Err}
use Rattle.base_outcomes.specs.declared.outcome.OutsideObject.TheVariants as which
use Rattle.base_outcomes.specs.declared.outcome.Outcome.{Outcome}
use Rattle.base_outcomes.specs.declared.outcome.Outcome.TheVariants as outcome
use Rattle.outside.specs.Counts.{Rose}
use Rattle.base.specs.declared.child.MaybeText.{MaybeText}
use Rattle.base.specs.declared.child.MaybeText.TheVariants.{Given, Nothing}
use Rattle.vunit_top.specs.Said.{Results}
use Rattle.outside.specs.Reports.{HasWritten, IsSameBut}
use Rattle.project_reading.specs.declared.stops.ReadStop.{ReadStop}
use Rattle.project_reading.specs.Sources.{ReadCounts}

-- After each answer of a part that only puts: a fault of the output was counted, and else its count is unchanged.
abbrev pub OutCauses : Outcome → ℕ → ℕ → Type 0
OutCauses (outcome.OutsideFault which.Out) old new = Rose old new
OutCauses (outcome.OutsideFault other) old new = ⊥
OutCauses answer old new = new ≡ old

-- After each answer of a part that only writes a report: a fault of the report was counted, and else its count is
-- unchanged.
abbrev pub ReportCauses : Outcome → ℕ → ℕ → Type 0
ReportCauses (outcome.OutsideFault which.Report) old new = Rose old new
ReportCauses (outcome.OutsideFault other) old new = ⊥
ReportCauses answer old new = new ≡ old

-- The files of reports after an answer of a part that only writes a report. After `Done` the file of the path has exactly the text,
-- and no other file is changed. After a fault of the report no other file is changed. After any other answer no file is changed.
abbrev pub Writes : Outcome → (path text : List ℕ) → (old new : List ℕ → Option (List ℕ)) → Type 0
Writes outcome.Done path text old new = HasWritten path text old new
Writes (outcome.OutsideFault which.Report) path text old new = IsSameBut path old new
Writes answer path text old new = new ≡ old

-- After a reading that stopped: a fault of the tree was counted, and else its count is unchanged.
abbrev pub StopCounts : ReadStop → ℕ → ℕ → Type 0
StopCounts stop old new = ReadCounts {T = Unit {0}} (Err stop) old new

-- The files of reports after a text that is written last. After any other fault than one of the report, and after out of memory, no
-- file is changed. After a fault of the report only the file of the path may be changed. After any other answer this file has
-- exactly the text, and no other file is changed.
abbrev pub WritesLast : Outcome → (path text : List ℕ) → (old new : List ℕ → Option (List ℕ)) → Type 0
WritesLast outcome.NoMemory path text old new = new ≡ old
WritesLast (outcome.OutsideFault which.Report) path text old new = IsSameBut path old new
WritesLast (outcome.OutsideFault other) path text old new = new ≡ old
WritesLast answer path text old new = HasWritten path text old new

-- The files of reports after a run, by the path of its report, if it has one, and the text of its report, if it says one.
abbrev pub WritesReport : MaybeText → Option (List ℕ) → Outcome → (old new : List ℕ → Option (List ℕ)) → Type 0
WritesReport Nothing said answer old new = new ≡ old
WritesReport (Given path) None answer old new = new ≡ old
WritesReport (Given path) (Some text) answer old new = WritesLast answer path text old new

-- What a text leaves that is written before something is put: after a fault of the output too the file has the text.
abbrev pub WritesFirst : Outcome → (path text : List ℕ) → (old new : List ℕ → Option (List ℕ)) → Type 0
WritesFirst (outcome.OutsideFault which.Out) path text old new = HasWritten path text old new
WritesFirst answer path text old new = WritesLast answer path text old new

-- what a child leaves of the files of reports where it has these results, if any
abbrev pub WritesResults : Option Results → Outcome → (old new : List ℕ → Option (List ℕ)) → Type 0
WritesResults None answer old new = new ≡ old
WritesResults (Some results) answer old new = WritesFirst answer results.path results.text old new
