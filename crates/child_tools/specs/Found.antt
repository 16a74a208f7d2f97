-- What scanning a text gives: its scan, or none where it has a fault.
use Rattle.std.specs.Prelude.{◌≡◌, ℕ, List, Option, Some, None}
use Rattle.base.specs.declared.design.Scan.{Scan}
use Rattle.vhdl_spec.specs.Scans.{Finding, Clean, Lexical, Grammatical, IsFinding, IsScanOf}

-- the scan that was found; none where the text has a fault
abbrev pub clean_scan : Finding → Option Scan
clean_scan (Clean scan) = Some scan
clean_scan (Lexical fault) = None
clean_scan (Grammatical fault) = None

-- the scan of a text, or none where scanning it finds a fault
abbrev pub IsFoundClean : List ℕ → Option Scan → Type 0
IsFoundClean text (Some scan) = IsScanOf text scan
IsFoundClean text None = (finding : Finding) × IsFinding text finding × (clean_scan finding ≡ None)
