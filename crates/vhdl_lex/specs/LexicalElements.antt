-- What is at an offset of a text.
use Rattle.std.specs.Prelude.{◌≡◌, ℕ, ◌-◌, ◌<◌, ◌≤◌, Bool, ◌&&◌, ◌||◌, ◌==◌, nat_le, List, [], length, slice_get, Option, Some, None}
use Rattle.base.specs.declared.lexical.Token.{Token}
use Rattle.base.specs.declared.lexical.TokenKind.TheVariants.{Str, Extended}
use Rattle.base.specs.declared.lexical.LexFault.TheVariants.{UnclosedString, UnclosedExtended, UnclosedComment}
use Rattle.vhdl_spec.specs.Tokens.{Row, line_comment, block_comment, token, LexicalElement, row_at, HasForm, IsLongest, Leads, tokens_of, comments_of}
use Rattle.vhdl_lex.specs.declared.lexical_element.Found.{Found}
use Rattle.vhdl_lex.specs.declared.lexical_element.Found.TheVariants.{Gap, Comment, Lexeme, Unclosed}

-- the parentheses, `*`, `+`, `,`, `.`, and those from `:` to `>`
abbrev pub is_plain : ℕ → Bool
is_plain byte = nat_le 40 byte && nat_le byte 44 || byte == 46 || nat_le 58 byte && nat_le byte 62

-- the last of tokens, if there is one
abbrev pub last_of : List Token → Option Token
last_of tokens = slice_get tokens (length tokens - 1)

-- a token has at least one byte, and ends within the text
abbrev pub LiesIn : List ℕ → Token → Type 0
LiesIn text here = (here.start < here.end) × (here.end ≤ length text)

-- the token before an offset lies in the text
abbrev pub LastIsIn : List ℕ → Option Token → Type 0
LastIsIn text None = Unit {0}
LastIsIn text (Some last) = LiesIn text last

-- gaps without a line comment reach from one offset up to a later one
pub record Skips (text : List ℕ) (last : Option Token) (at end : ℕ) : Type 0 where
  pub lexical_elements : List LexicalElement
  pub leads : Leads text (record { last = last; at = at }) lexical_elements (record { last = last; at = end })
  pub tokens : tokens_of lexical_elements ≡ []
  pub comments : comments_of lexical_elements ≡ []
  pub some : at < end
  pub within : end ≤ length text

-- the row fits first, and its longest lexical element ends here
pub record IsLexicalElementEnd (row : Row) (text : List ℕ) (last : Option Token) (at end : ℕ) : Type 0 where
  pub first : row_at text last at ≡ row
  pub longest : IsLongest row text at end

-- the row fits first, and no lexical element has its form
pub record HasNoEnd (row : Row) (text : List ℕ) (last : Option Token) (at : ℕ) : Type 0 where
  pub first : row_at text last at ≡ row
  pub no_end : (end : ℕ) → end ≤ length text → HasForm row text at end → ⊥

-- what was found is at the offset
abbrev pub IsFound : List ℕ → Option Token → ℕ → Found → Type 0
IsFound text last at (Gap end) = Skips text last at end
IsFound text last at (Comment end) = IsLexicalElementEnd line_comment text last at end
IsFound text last at (Lexeme kind end) = IsLexicalElementEnd (token kind) text last at end
IsFound text last at (Unclosed (UnclosedString offset)) = (offset ≡ at) × HasNoEnd (token Str) text last at
IsFound text last at (Unclosed (UnclosedExtended offset)) = (offset ≡ at) × HasNoEnd (token Extended) text last at
IsFound text last at (Unclosed (UnclosedComment offset)) = (offset ≡ at) × HasNoEnd block_comment text last at
