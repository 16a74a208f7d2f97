-- Tokens that lie in a text.
use Rattle.std.specs.Prelude.{ℕ, ◌<◌, List, length}
use Rattle.base.specs.declared.lexical.Token.{Token}
use Rattle.vhdl_spec.specs.Units.{token_at}
use Rattle.vhdl_lex.specs.LexicalElements.{LiesIn}

-- each of the tokens has at least one byte, and ends within the text
abbrev pub AllLieIn : List ℕ → List Token → Type 0
AllLieIn text tokens = (at : ℕ) → at < length tokens → LiesIn text (token_at tokens at)
