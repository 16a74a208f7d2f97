-- What was read of a text so far.
use Rattle.std.specs.Prelude.{◌≡◌, ℕ, ◌<◌, ◌≤◌, List, length, Result, Ok, Err}
use Rattle.base.specs.declared.lexical.Token.{Token}
use Rattle.base.specs.declared.lexical.Span.{Span}
use Rattle.base.specs.declared.lexical.LexFault.{LexFault}
use Rattle.base.specs.declared.memory.OrMemory.{OrMemory}
use Rattle.vhdl_spec.specs.Tokens.{LexicalElement, Leads, Scans, comments_of, text_start, tokens_of}
use Rattle.vhdl_lex.specs.LexicalElements.{LastIsIn, last_of}

-- lexical elements from the start up to an offset, with their tokens and their comments
pub record Read (text : List ℕ) (list : List Token) (comments : List Span) (at : ℕ) : Type 0 where
  pub lexical_elements : List LexicalElement
  pub leads : Leads text text_start lexical_elements (record { last = last_of list; at = at })
  pub tokens_are : list ≡ tokens_of lexical_elements
  pub comments_are : comments ≡ comments_of lexical_elements
  pub within : at ≤ length text
  pub lies : LastIsIn text (last_of list)

-- at least one lexical element more was read, or there is a fault
abbrev pub ReadsOn : List ℕ → ℕ → List Token → List Span → Result ℕ (OrMemory LexFault) → Type 0
ReadsOn text from list comments (Ok at) = (from < at) × Read text list comments at
ReadsOn text from list comments (Err fault) = Scans text (Err fault)
