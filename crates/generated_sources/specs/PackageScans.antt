-- The scan of the file of a package of the generated project, by the package's number and by whether the file is edited:
-- its tokens and comments with their indices, and the package. A place is a number of bytes from the file's start. Of a
-- number in a name only how many digits it has matters for indices.
use Rattle.std.specs.Prelude.{◌≡◌, ℕ, ◌+◌, ◌*◌, ◌/◌, ◌<◌, ◌==◌, Bool, true, if◌then◌else◌, List, [], ◌∷◌, ◌++◌, length}
use Rattle.std.specs.Char.{is_ascii_digit}
use Rattle.std.specs.Fmt.{decimal}
use Rattle.std.specs.List.{list_all}
use Rattle.base.specs.declared.child.MaybeText.TheVariants.{Nothing}
use Rattle.base.specs.declared.design.Role.{Role}
use Rattle.base.specs.declared.design.Role.TheVariants.{All, Colon, Dot, End, Is, Library, Name, Other, Semicolon, Use}
use Rattle.base.specs.declared.design.Role.TheVariants as roles
use Rattle.base.specs.declared.design.Scan.{Scan}
use Rattle.base.specs.declared.design.Unit.{Unit as DesignUnit}
use Rattle.base.specs.declared.design.UnitKind.TheVariants.{Package}
use Rattle.base.specs.declared.lexical.Span.{Span}
use Rattle.base.specs.declared.lexical.Token.{Token}
use Rattle.base.specs.declared.lexical.TokenKind.{TokenKind}
use Rattle.base.specs.declared.lexical.TokenKind.TheVariants.{Number, Symbol, Word}
use Rattle.vhdl_spec.specs.Units.{Element, item, plain}

-- ## Names

-- the name of the package of a number: a `p` and the number's digits
abbrev pub package_name : ℕ → List ℕ
package_name number = 112 ∷ decimal number

-- how many digits a number has
abbrev pub digit_count : ℕ → ℕ
digit_count number = length (decimal number)

-- digits, of which there is a first one
pub record AreDigits (bytes : List ℕ) : Type 0 where
  pub first : ℕ
  pub rest : List ℕ
  pub small : first < 10
  pub begins : bytes ≡ (48 + first) ∷ rest
  pub all : list_all is_ascii_digit bytes ≡ true

-- ## Tokens

-- a token of a kind over the bytes from `start` up to before `end`
abbrev token : TokenKind → ℕ → ℕ → Token
token kind start end = record { kind = kind; start = start; end = end }

-- a word token over the bytes from `start` up to before `end`
abbrev word : ℕ → ℕ → Token
word start end = token Word start end

-- a token of one byte that is a delimiter, at an offset
abbrev symbol : ℕ → Token
symbol start = token Symbol start (start + 1)

-- the tokens of `library lib;` and `use lib.pN.all;`, each on its own line, where N has `digits` digits
abbrev pub use_tokens : (digits : ℕ) → List Token
use_tokens digits =
    word 0 7 ∷ word 8 11 ∷ symbol 11 ∷ word 13 16 ∷ word 17 20 ∷ symbol 20 ∷ word 21 (digits + 22) ∷ symbol (digits + 22) ∷
    word (digits + 23) (digits + 26) ∷ symbol (digits + 26) ∷ []

-- where these lines end
abbrev pub use_end : (digits : ℕ) → ℕ
use_end digits = digits + 28

-- `package pN is` and `end package pN;`, with `constant c : integer := 0;` between, each in a line, from an offset on
abbrev pub lines_tokens : (start digits : ℕ) → List Token
lines_tokens start digits =
    word start (start + 7) ∷ word (start + 8) (start + digits + 9) ∷ word (start + digits + 10) (start + digits + 12) ∷
    word (start + digits + 15) (start + digits + 23) ∷ word (start + digits + 24) (start + digits + 25) ∷
    symbol (start + digits + 26) ∷ word (start + digits + 28) (start + digits + 35) ∷ symbol (start + digits + 36) ∷
    symbol (start + digits + 37) ∷ token Number (start + digits + 39) (start + digits + 40) ∷ symbol (start + digits + 40) ∷
    word (start + digits + 42) (start + digits + 45) ∷ word (start + digits + 46) (start + digits + 53) ∷
    word (start + digits + 54) (start + 2 * digits + 55) ∷ symbol (start + 2 * digits + 55) ∷ []

-- the offset after the line feed of `end package pN;`, where `package pN is` begins at `start` and N has `digits` digits
abbrev pub lines_end : (start digits : ℕ) → ℕ
lines_end start digits = start + 2 * digits + 57

-- where the package of a file begins: at its start, or after the lines that make the package of a number visible
abbrev pub package_start : (alone : Bool) → (used : ℕ) → ℕ
package_start alone used = if alone then 0 else use_end used

-- the tokens of the file of a package whose number has `digits` digits; unless `alone`, it uses a package whose number has `used`
-- digits
abbrev pub file_tokens : (alone : Bool) → (used digits : ℕ) → List Token
file_tokens alone used digits = (if alone then [] else use_tokens used) ++ lines_tokens (package_start alone used) digits

-- the comment of an edited file is `-- child: note 1`, after all else
abbrev pub file_comments : (alone : Bool) → (used digits : ℕ) → (noted : Bool) → List Span
file_comments alone used digits noted =
    if noted then record { start = lines_end (package_start alone used) digits; end = lines_end (package_start alone used) digits + 16 } ∷ [] else []

-- the first package uses none, and each other the one of half its number
abbrev pub is_alone : ℕ → Bool
is_alone number = number == 1

-- the tokens of the file of the package of a number, with or without an edit
abbrev pub package_tokens : (number : ℕ) → List Token
package_tokens number = file_tokens (is_alone number) (digit_count (number / 2)) (digit_count number)

-- the comments of the file of the package of a number: one where the file is edited, and else none
abbrev pub package_comments : (number : ℕ) → (noted : Bool) → List Span
package_comments number noted = file_comments (is_alone number) (digit_count (number / 2)) (digit_count number) noted

-- ## The package

-- the role of each token of `library lib;` and `use lib.pN.all;`, in order
abbrev pub use_roles : List Role
use_roles = Library ∷ Name ∷ Semicolon ∷ Use ∷ Name ∷ Dot ∷ Name ∷ Dot ∷ All ∷ Semicolon ∷ []

-- the role of each token from `package pN is` to `end package pN;`, in order
abbrev pub lines_roles : List Role
lines_roles =
    roles.Package ∷ Name ∷ Is ∷ Other ∷ Name ∷ Colon ∷ Name ∷ Colon ∷ Other ∷ Other ∷ Semicolon ∷ End ∷ roles.Package ∷ Name ∷ Semicolon ∷ []

-- the role of each token of a package's file, in order, by whether it uses no other package
abbrev pub file_roles : (alone : Bool) → List Role
file_roles alone = (if alone then [] else use_roles) ++ lines_roles

-- two context items, if any, and the package, by the number of the last token of each
abbrev pub file_elements : (alone : Bool) → List Element
file_elements alone = if alone then plain Package 14 ∷ [] else item 2 ∷ item 9 ∷ plain Package 24 ∷ []

-- the package of a file with this name
abbrev pub file_unit : (alone : Bool) → List ℕ → DesignUnit
file_unit alone name = record { kind = Package; name = name; owner = Nothing; lead = 0; first = if alone then 0 else 10; last = if alone then 14 else 24 }

-- the one unit of a file
abbrev pub package_unit : (number : ℕ) → DesignUnit
package_unit number = file_unit (is_alone number) (package_name number)

-- ## The scan

-- what a scanner finds in the file of the package of a number: tokens, comments and one unit
abbrev pub package_scan : (number : ℕ) → (noted : Bool) → Scan
package_scan number noted = record {
  tokens = record { list = package_tokens number; comments = package_comments number noted };
  units = package_unit number ∷ [];
}
