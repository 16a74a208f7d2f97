-- What reports over memory hold.
use Rattle.std.specs.Prelude.{◌≡◌, false, List, Result, Ok, Err}
use Rattle.base.specs.declared.file.NamedText.{NamedText}
use Rattle.memory_outside.specs.declared.failing.Calls.{Calls}
use Rattle.memory_outside.specs.Failing.{fails_next}
use Rattle.outside.specs.declared.reports.ReportFault.{ReportFault}

-- what was written, the last first, so that of a path the first one counts; and the calls
pub record HeldReports : Type 0 where
  pub written : List NamedText
  pub calls : Calls

-- A write that is listed fails. Any other may find no memory.
abbrev pub ReportFails : {T : Type 0} → Result T ReportFault → Calls → Type 0
ReportFails (Ok value) calls = fails_next calls ≡ false
ReportFails (Err fault) calls = Unit {0}
