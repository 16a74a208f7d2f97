-- Reports: a map from paths to bytes, in which a write sets one path.
use Rattle.std.specs.Prelude.{◌≡◌, ◌≢◌, ℕ, List, Option, Some, Result, Ok, Err}
use Rattle.outside.specs.Counts.{Counted}
use Rattle.outside.specs.declared.reports.ReportFault.{ReportFault}
use Rattle.outside.specs.declared.reports.ReportFault.TheVariants.{Failed}

-- the report of any other path is unchanged
abbrev pub IsSameBut : (path : List ℕ) (old new : List ℕ → Option (List ℕ)) → Type 0
IsSameBut path old new = (other : List ℕ) → other ≢ path → new other ≡ old other

-- the report of this path has these bytes now, and that of any other path is unchanged
pub record HasWritten (path bytes : List ℕ) (old new : List ℕ → Option (List ℕ)) : Type 0 where
  pub written : new path ≡ Some bytes
  pub others : IsSameBut path old new

-- After Ok the report has the bytes. After a fault nothing is known of it, and each other is unchanged.
abbrev pub Reported : {T : Type 0} → Result T ReportFault → (path bytes : List ℕ) → (old new : List ℕ → Option (List ℕ)) → Type 0
Reported (Ok value) path bytes old new = HasWritten path bytes old new
Reported (Err fault) path bytes old new = IsSameBut path old new

-- After a fault it was counted, and after Ok the count is unchanged.
abbrev pub ReportCounts : {T : Type 0} → Result T ReportFault → ℕ → ℕ → Type 0
ReportCounts (Ok value) before now = now ≡ before
ReportCounts (Err Failed) before now = Counted before now
