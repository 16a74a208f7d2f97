-- What the numbers that are handed to C count.
use Rattle.std.specs.Prelude.{◌≡◌, ◌⊎◌, ◌%◌, ◌^◌, ℕ, true, List, length, sum_by}
use Rattle.base.specs.declared.lexical.LexFault.{LexFault}
use Rattle.base.specs.declared.lexical.Tokens.{Tokens}
use Rattle.base.specs.declared.design.Scan.{Scan}
use Rattle.base.specs.declared.design.UnitFault.{UnitFault}
use Rattle.bench_library.specs.declared.Referred.{Referred}
use Rattle.vhdl_spec.specs.Tokens.{LexicalElement, IsCut, HasFault, tokens_of, comments_of}
use Rattle.vhdl_spec.specs.References.{refs_of}
use Rattle.vhdl_spec.specs.Scans.{IsScanOf}
use Rattle.vhdl_spec.specs.Units.{AreTokensOf, Element, IsOutline, HasUnitFault, roles_of, units_of}

-- the text has a cut with this number of tokens and of line comments
pub record HasTokens (text : List ℕ) (tokens comments : ℕ) : Type 0 where
  pub lexical_elements : List LexicalElement
  pub cut : IsCut text lexical_elements
  pub tokens_counted : tokens ≡ length (tokens_of lexical_elements)
  pub comments_counted : comments ≡ length (comments_of lexical_elements)

-- the tokens of the text's cut have an outline with this number of units
pub record HasUnits (text : List ℕ) (units : ℕ) : Type 0 where
  pub tokens : Tokens
  pub cut : AreTokensOf text tokens
  pub elements : List Element
  pub outline : IsOutline (roles_of text tokens.list) elements
  pub counted : units ≡ length (units_of text tokens.list elements)

-- how many references the units of a scan have together
unfoldable pub ref_count : List ℕ → Scan → ℕ
ref_count text scan = sum_by (λ unit. length (refs_of text scan.tokens.list unit)) scan.units

-- the text has a scan whose units have this number of references, modulo 2^64
pub record HasRefs (text : List ℕ) (refs : ℕ) : Type 0 where
  pub scan : Scan
  pub is_scan : IsScanOf text scan
  pub counted : refs ≡ ref_count text scan % 2 ^ 64

-- the text has no cut
abbrev pub HasLexicalFault : List ℕ → Type 0
HasLexicalFault text = (fault : LexFault) × HasFault text fault

-- the tokens of the text's cut have no outline
pub record HasGrammarFault (text : List ℕ) : Type 0 where
  pub tokens : Tokens
  pub cut : AreTokensOf text tokens
  pub fault : UnitFault
  pub has : HasUnitFault text tokens.list fault

-- the text has a lexical fault or one of the unit grammar
abbrev pub IsFaulty : List ℕ → Type 0
IsFaulty text = HasLexicalFault text ⊎ HasGrammarFault text

-- the references of a text: their number if the text is whole, and a fault if it is faulty
pub record IsReferred (text : List ℕ) (found : Referred) : Type 0 where
  pub counted : found.whole ≡ true → HasRefs text found.refs
  pub faulty : found.faulty ≡ true → IsFaulty text
