-- The scan of a text, and what a scanner finds in a text: its scan, or its fault.
use Rattle.std.specs.Prelude.{◌≡◌, ℕ, List, length, slice_get, Some}
use Rattle.base.specs.declared.lexical.LexFault.{LexFault}
use Rattle.base.specs.declared.design.Scan.{Scan}
use Rattle.base.specs.declared.design.UnitFault.{UnitFault}
use Rattle.vhdl_spec.specs.Tokens.{LexicalElement, IsCut, HasFault, tokens_of}
use Rattle.vhdl_spec.specs.Units.{Element, IsOutline, HasUnitFault, AreTokensOf, roles_of, units_of}

-- the tokens are those of the text's cut, and the units those of the outline of these tokens
pub record IsScanOf (text : List ℕ) (scan : Scan) : Type 0 where
  pub tokens : AreTokensOf text scan.tokens
  pub elements : List Element
  pub outline : IsOutline (roles_of text scan.tokens.list) elements
  pub units : scan.units ≡ units_of text scan.tokens.list elements

-- one scan a text, in the order of the texts
pub record AreScansOf (texts : List (List ℕ)) (scans : List Scan) : Type 0 where
  pub each : length scans ≡ length texts
  pub are : (i : ℕ) (text : List ℕ) (scan : Scan) → slice_get texts i ≡ Some text → slice_get scans i ≡ Some scan → IsScanOf text scan

-- nothing is wrong at file level, and this is the scan; or a fault of the tokens or of the design units
pub data Finding : Type 0 where
  Clean : Scan → Finding
  Lexical : LexFault → Finding
  Grammatical : UnitFault → Finding

-- what is found in a text; each text has exactly one finding
abbrev pub IsFinding : List ℕ → Finding → Type 0
IsFinding text (Clean scan) = IsScanOf text scan
IsFinding text (Lexical fault) = HasFault text fault
IsFinding text (Grammatical fault) = (lexical_elements : List LexicalElement) × IsCut text lexical_elements × HasUnitFault text (tokens_of lexical_elements) fault

-- A scanner gives each text its finding. There is exactly one, so a clause for each scanner speaks of that.
abbrev pub IsScanner : (List ℕ → Finding) → Type 0
IsScanner scan = (text : List ℕ) → IsFinding text (scan text)
