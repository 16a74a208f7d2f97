-- The unit grammar (IEEE Std 1076-2008, clause 13.1, in this project's lenient profile).
--
-- A file is a list of context items and design units. The grammar sees the role of each token. Tokens are given by their
-- numbers, counted from 0, and a number past the last one has the role of a token that the grammar doesn't name.
use Rattle.std.specs.Prelude.{◌≡◌, ◌≢◌, ℕ, zero, suc, ◌+◌, ◌*◌, ◌<◌, ◌≤◌, ◌⊎◌, ◌==◌, Bool, true, false, if◌then◌else◌, List, [], ◌∷◌, ◌++◌, length, map, count_by, slice_index, slice_index_or, slice_range, bytes_eq, codes, Result, Ok, Err}
use Rattle.base.specs.declared.lexical.TokenKind.{TokenKind}
use Rattle.base.specs.declared.lexical.TokenKind.TheVariants.{Word, Extended, Number, Str, Char, Tick, Symbol, High}
use Rattle.base.specs.declared.lexical.Token.{Token}
use Rattle.base.specs.declared.lexical.Tokens.{Tokens}
use Rattle.base.specs.declared.child.MaybeText.TheVariants.{Nothing, Given}
use Rattle.base.specs.declared.design.UnitKind.{UnitKind}
use Rattle.base.specs.declared.design.UnitKind.TheVariants as kinds
use Rattle.base.specs.declared.design.Role.{Role}
use Rattle.base.specs.declared.design.Role.TheVariants.{Library, Use, Context, Entity, Architecture, Configuration, Package, Body, Is, Of, New, Function, Procedure, Generate, End, If, For, Case, Elsif, Else, Component, Inner, All, Generic, Opening, Closing, Semicolon, Colon, Dot, Comma, Name, Other}
use Rattle.base.specs.declared.design.Beginning.{Beginning}
use Rattle.base.specs.declared.design.Beginning.TheVariants as begins
use Rattle.base.specs.declared.design.Unit.{Unit as DesignUnit}
use Rattle.base.specs.declared.design.UnitFault.{UnitFault}
use Rattle.base.specs.declared.design.UnitFault.TheVariants.{NotUnit, NotEnded}
use Rattle.base.specs.declared.memory.OrMemory.{OrMemory}
use Rattle.base.specs.declared.memory.OrMemory.TheVariants.{NoMemory, Fault}
use Rattle.vhdl_spec.specs.Words.{is_reserved, lower_case}
use Rattle.vhdl_spec.specs.Tokens.{LexicalElement, IsCut, AreOf}

-- ## Roles of tokens

-- the role of a word in lower case
unfoldable pub word_role : List ℕ → Role
word_role word =
    if bytes_eq word (codes "library") then Library
    else (if bytes_eq word (codes "use") then Use
    else (if bytes_eq word (codes "context") then Context
    else (if bytes_eq word (codes "entity") then Entity
    else (if bytes_eq word (codes "architecture") then Architecture
    else (if bytes_eq word (codes "configuration") then Configuration
    else (if bytes_eq word (codes "package") then Package
    else (if bytes_eq word (codes "body") then Body
    else (if bytes_eq word (codes "is") then Is
    else (if bytes_eq word (codes "of") then Of
    else (if bytes_eq word (codes "new") then New
    else (if bytes_eq word (codes "function") then Function
    else (if bytes_eq word (codes "procedure") then Procedure
    else (if bytes_eq word (codes "generate") then Generate
    else (if bytes_eq word (codes "end") then End
    else (if bytes_eq word (codes "if") then If
    else (if bytes_eq word (codes "for") then For
    else (if bytes_eq word (codes "case") then Case
    else (if bytes_eq word (codes "elsif") then Elsif
    else (if bytes_eq word (codes "else") then Else
    else (if bytes_eq word (codes "loop") then Inner
    else (if bytes_eq word (codes "block") then Inner
    else (if bytes_eq word (codes "process") then Inner
    else (if bytes_eq word (codes "record") then Inner
    else (if bytes_eq word (codes "units") then Inner
    else (if bytes_eq word (codes "protected") then Inner
    else (if bytes_eq word (codes "component") then Component
    else (if bytes_eq word (codes "postponed") then Inner
    else (if bytes_eq word (codes "all") then All
    else (if bytes_eq word (codes "generic") then Generic
    else (if is_reserved word then Other
    else Name))))))))))))))))))))))))))))))

-- the role of a symbol by its byte; `Other` for one that the grammar doesn't name
abbrev pub symbol_role : ℕ → Role
symbol_role byte =
    if byte == 40 then Opening
    else (if byte == 41 then Closing
    else (if byte == 44 then Comma
    else (if byte == 46 then Dot
    else (if byte == 58 then Colon
    else (if byte == 59 then Semicolon
    else Other)))))

-- the role of a token by its kind; literals, ticks and `High` tokens have the role `Other`
abbrev pub kind_role : List ℕ → Token → TokenKind → Role
kind_role text token Word = word_role (lower_case (slice_range text token.start token.end))
kind_role text token Extended = Name
kind_role text token Symbol = symbol_role (slice_index text token.start)
kind_role text token Number = Other
kind_role text token Str = Other
kind_role text token Char = Other
kind_role text token Tick = Other
kind_role text token High = Other

-- what a token is to the grammar
abbrev pub role_of : List ℕ → Token → Role
role_of text token = kind_role text token token.kind

-- what the tokens of a text are to the grammar, in order
abbrev pub roles_of : List ℕ → List Token → List Role
roles_of text tokens = map (role_of text) tokens

-- the role of the token of a number, and `Other` past the last one
abbrev pub role_at : List Role → ℕ → Role
role_at roles at = slice_index_or roles at Other

-- ## Classes of tokens within a unit, whose items start at a token

-- `(`
abbrev pub is_opening : Role → Bool
is_opening Opening = true
is_opening _ = false

-- `)`
abbrev pub is_closing : Role → Bool
is_closing Closing = true
is_closing _ = false

-- as many parentheses were opened as closed since the start
abbrev pub IsLevel : List Role → ℕ → ℕ → Type 0
IsLevel roles start at = count_by is_opening (slice_range roles start at) ≡ count_by is_closing (slice_range roles start at)

-- the token before isn't of the role
abbrev pub IsNotAfter : Role → List Role → ℕ → Type 0
IsNotAfter role roles zero = Unit {0}
IsNotAfter role roles (suc before) = role_at roles before ≢ role

-- a token at which an item can begin
pub record MayOpen (roles : List Role) (start at : ℕ) : Type 0 where
  pub level : IsLevel roles start at
  pub no_end : IsNotAfter End roles at
  pub no_colon : IsNotAfter Colon roles at

-- after `package` comes `body`, or NAME `is` and then not `new`
abbrev pub BeginsPackage : List Role → ℕ → Type 0
BeginsPackage roles at = (role_at roles (at + 1) ≡ Body) ⊎ ((role_at roles (at + 1) ≡ Name) × (role_at roles (at + 2) ≡ Is) × (role_at roles (at + 3) ≢ New))

-- a package that isn't an instance
pub record IsPackageOpener (roles : List Role) (start at : ℕ) : Type 0 where
  pub word : role_at roles at ≡ Package
  pub may : MayOpen roles start at
  pub begins : BeginsPackage roles at

-- at level the next `is` comes before the next `;`, and before no `new`
pub record HasBody (roles : List Role) (start at : ℕ) : Type 0 where
  pub is_at : ℕ
  pub later : at < is_at
  pub is_there : role_at roles is_at ≡ Is
  pub is_level : IsLevel roles start is_at
  pub first : (between : ℕ) → at < between → between < is_at → IsLevel roles start between → (role_at roles between ≢ Is) × (role_at roles between ≢ Semicolon)
  pub no_new : role_at roles (is_at + 1) ≢ New

-- the `function` or `procedure` of a subprogram body
pub record IsSubprogramOpener (roles : List Role) (start at : ℕ) : Type 0 where
  pub word : (role_at roles at ≡ Function) ⊎ (role_at roles at ≡ Procedure)
  pub may : MayOpen roles start at
  pub body : HasBody roles start at

-- a package or a subprogram body begins within a unit, with items and an `end` of its own
abbrev pub OpensItems : List Role → ℕ → ℕ → Type 0
OpensItems roles start at = IsPackageOpener roles start at ⊎ IsSubprogramOpener roles start at

-- whether the nearest of `if`, `for`, `case`, `elsif` and `else` before a token is one of the first three
abbrev pub next_begins : Bool → Role → Bool
next_begins before If = true
next_begins before For = true
next_begins before Case = true
next_begins before Elsif = false
next_begins before Else = false
next_begins before _ = before

-- a `generate` at this token begins a region: the nearest of the five words before it is `if`, `for` or `case`
abbrev pub begins_generate : List Role → ℕ → Bool
begins_generate roles zero = false
begins_generate roles (suc before) = next_begins (begins_generate roles before) (role_at roles before)

-- the `generate` that begins the region of a generate statement
pub record IsGenerateOpener (roles : List Role) (at : ℕ) : Type 0 where
  pub word : role_at roles at ≡ Generate
  pub no_end : IsNotAfter End roles at
  pub begins : begins_generate roles at ≡ true

-- the `end` of `end generate`
pub record IsGenerateEnd (roles : List Role) (at : ℕ) : Type 0 where
  pub word : role_at roles at ≡ End
  pub what : role_at roles (at + 1) ≡ Generate

-- after `end` the role says that something within a unit ends
abbrev pub ends_inner : Role → Bool
ends_inner If = true
ends_inner Case = true
ends_inner For = true
ends_inner Component = true
ends_inner Inner = true
ends_inner Generate = true
ends_inner _ = false

-- an `end` that ends the unit or an item with an `end` of its own, and no statement within it
pub record IsPlainEnd (roles : List Role) (at : ℕ) : Type 0 where
  pub word : role_at roles at ≡ End
  pub what : ends_inner (role_at roles (at + 1)) ≡ false

-- ## Items

-- what ends a region: of a generate statement or not
abbrev pub Closes : List Role → Bool → ℕ → Type 0
Closes roles true at = IsGenerateEnd roles at
Closes roles false at = IsPlainEnd roles at

-- one token that neither opens anything nor ends the region
pub record IsSingle (roles : List Role) (start : ℕ) (generate : Bool) (at : ℕ) : Type 0 where
  pub no_items : OpensItems roles start at → ⊥
  pub no_generate : IsGenerateOpener roles at → ⊥
  pub no_close : Closes roles generate at → ⊥

-- the items from one token up to another, in the region of a generate statement or not
pub data Items (roles : List Role) (start : ℕ) : Bool → ℕ → ℕ → Type 0 where
  nothing : {generate : Bool} {at end : ℕ} → end ≡ at → Items roles start generate at end
  single : {generate : Bool} {at end : ℕ} → IsSingle roles start generate at → Items roles start generate (at + 1) end → Items roles start generate at end
  items : {generate : Bool} {at close end : ℕ} → OpensItems roles start at → Items roles start false (at + 1) close → IsPlainEnd roles close → Items roles start generate (close + 1) end → Items roles start generate at end
  region : {generate : Bool} {at close end : ℕ} → IsGenerateOpener roles at → Items roles start true (at + 1) close → IsGenerateEnd roles close → Items roles start generate (close + 1) end → Items roles start generate at end

-- ## Context items and units

-- the first `;` from a token on
pub record IsFirstSemicolon (roles : List Role) (start at : ℕ) : Type 0 where
  pub after : start ≤ at
  pub there : role_at roles at ≡ Semicolon
  pub first : (before : ℕ) → start ≤ before → before < at → role_at roles before ≢ Semicolon

-- the items of a unit, a plain end and the tokens up to the next `;`
pub record IsEndPart (roles : List Role) (start last : ℕ) : Type 0 where
  pub close : ℕ
  pub inside : Items roles start false start close
  pub ends : IsPlainEnd roles close
  pub semicolon : IsFirstSemicolon roles (close + 1) last

-- NAMEs joined by `.`: `before` of them before the last, and an `is` after the last
pub record IsOwner (roles : List Role) (start before : ℕ) : Type 0 where
  pub names : (n : ℕ) → n ≤ before → role_at roles (start + 2 * n) ≡ Name
  pub dots : (n : ℕ) → n < before → role_at roles (start + 2 * n + 1) ≡ Dot
  pub is_after : role_at roles (start + 2 * before + 1) ≡ Is

-- what begins, by the first four roles; no unit may begin where no row fits
abbrev pub beginning_of : Role → Role → Role → Role → Beginning
beginning_of Library _ _ _ = begins.Item
beginning_of Use _ _ _ = begins.Item
beginning_of Context Name Is _ = begins.Plain kinds.Context
beginning_of Context _ _ _ = begins.Item
beginning_of Entity Name Is _ = begins.Plain kinds.Entity
beginning_of Architecture Name Of _ = begins.Owned kinds.Architecture
beginning_of Configuration Name Of _ = begins.Owned kinds.Configuration
beginning_of Package Body Name Is = begins.Plain kinds.PackageBody
beginning_of Package Name Is New = begins.Plain kinds.PackageInstance
beginning_of Package Name Is _ = begins.Plain kinds.Package
beginning_of _ _ _ _ = begins.Nothing

-- what begins at file level at a token, by its role and the next three
abbrev pub beginning_at : List Role → ℕ → Beginning
beginning_at roles at = beginning_of (role_at roles at) (role_at roles (at + 1)) (role_at roles (at + 2)) (role_at roles (at + 3))

-- the token number of a unit's name
abbrev pub name_token : UnitKind → ℕ → ℕ
name_token kinds.PackageBody at = at + 2
name_token _ at = at + 1

-- how a unit without an owner ends: an instance of a package has no items
abbrev pub EndsPlain : UnitKind → List Role → ℕ → ℕ → Type 0
EndsPlain kinds.PackageInstance roles at last = IsFirstSemicolon roles (at + 3) last
EndsPlain kinds.PackageBody roles at last = IsEndPart roles (at + 4) last
EndsPlain _ roles at last = IsEndPart roles (at + 3) last

-- a context item or a unit, up to its last `;`
pub data Element : Type 0 where
  item : ℕ → Element
  plain : UnitKind → ℕ → Element
  owned : UnitKind → ℕ → ℕ → Element

-- the number of an element's last token
abbrev pub last_of : Element → ℕ
last_of (item last) = last
last_of (plain kind last) = last
last_of (owned kind before last) = last

-- the element begins at the token
abbrev pub IsElement : List Role → ℕ → Element → Type 0
IsElement roles at (item last) = (beginning_at roles at ≡ begins.Item) × IsFirstSemicolon roles (at + 1) last
IsElement roles at (plain kind last) = (beginning_at roles at ≡ begins.Plain kind) × EndsPlain kind roles at last
IsElement roles at (owned kind before last) = (beginning_at roles at ≡ begins.Owned kind) × IsOwner roles (at + 3) before × IsEndPart roles (at + 5 + 2 * before) last

-- a context item or a unit begins, whether it ends or not
abbrev pub BeginsAs : List Role → ℕ → Beginning → Type 0
BeginsAs roles at begins.Nothing = ⊥
BeginsAs roles at begins.Item = Unit {0}
BeginsAs roles at (begins.Plain kind) = Unit {0}
BeginsAs roles at (begins.Owned kind) = (before : ℕ) × IsOwner roles (at + 3) before

-- a context item or a unit begins at a token, by the roles there
abbrev pub Begins : List Role → ℕ → Type 0
Begins roles at = BeginsAs roles at (beginning_at roles at)

-- ## A file

-- the elements follow one another from one token up to another
abbrev pub Follow : List Role → ℕ → List Element → ℕ → Type 0
Follow roles at [] end = at ≡ end
Follow roles at (element ∷ elements) end = IsElement roles at element × Follow roles (last_of element + 1) elements end

-- the elements, one after the other, are the whole file
abbrev pub IsOutline : List Role → List Element → Type 0
IsOutline roles elements = Follow roles 0 elements (length roles)

-- after elements something begins neither an item nor a unit
pub record IsNoUnit (roles : List Role) (at : ℕ) : Type 0 where
  pub elements : List Element
  pub follow : Follow roles 0 elements at
  pub within : at < length roles
  pub no_start : Begins roles at → ⊥

-- after elements an item or a unit begins that has no end
pub record IsUnended (roles : List Role) (at : ℕ) : Type 0 where
  pub elements : List Element
  pub follow : Follow roles 0 elements at
  pub within : at < length roles
  pub start : Begins roles at
  pub no_end : (element : Element) → IsElement roles at element → ⊥

-- ## Units and faults of a text

-- the token of a number, and an empty one past the last
abbrev pub token_at : List Token → ℕ → Token
token_at tokens at = slice_index_or tokens at (record { kind = High; start = 0; end = 0 })

-- the name of a word is in lower case, that of an extended identifier as written
abbrev pub name_by_kind : List ℕ → Token → TokenKind → List ℕ
name_by_kind text token Extended = slice_range text token.start token.end
name_by_kind text token _ = lower_case (slice_range text token.start token.end)

-- the name that the token of a number is
abbrev pub name_of : List ℕ → List Token → ℕ → List ℕ
name_of text tokens at = name_by_kind text (token_at tokens at) (token_at tokens at).kind

-- the unit that an element is, if it is one; lead is the token after the unit before it
abbrev pub unit_of : List ℕ → List Token → ℕ → ℕ → Element → List DesignUnit
unit_of text tokens lead at (item last) = []
unit_of text tokens lead at (plain kind last) = record { kind = kind; name = name_of text tokens (name_token kind at); owner = Nothing; lead = lead; first = at; last = last } ∷ []
unit_of text tokens lead at (owned kind before last) = record { kind = kind; name = name_of text tokens (name_token kind at); owner = Given (name_of text tokens (at + 3 + 2 * before)); lead = lead; first = at; last = last } ∷ []

-- where the context part of the next unit begins: after a unit, and where it was after a context item
abbrev pub lead_after : ℕ → Element → ℕ
lead_after lead (item last) = lead
lead_after lead (plain kind last) = last + 1
lead_after lead (owned kind before last) = last + 1

-- the units among elements that begin at a token, where the context part of the first unit begins at `lead`
abbrev pub units_from : List ℕ → List Token → ℕ → ℕ → List Element → List DesignUnit
units_from text tokens lead at [] = []
units_from text tokens lead at (element ∷ elements) = unit_of text tokens lead at element ++ units_from text tokens (lead_after lead element) (last_of element + 1) elements

-- the design units of a file, with kind, name, owner and token numbers
abbrev pub units_of : List ℕ → List Token → List Element → List DesignUnit
units_of text tokens elements = units_from text tokens 0 0 elements

-- After some elements nothing begins that is one, or one begins that has no end; the fault is at its first byte. `foo`
-- alone begins nothing, and `entity e is` alone has no end: both faults are at byte 0. In `entity e is end;`, a line
-- feed and `end;` nothing begins at byte 17.
abbrev pub HasUnitFault : List ℕ → List Token → UnitFault → Type 0
HasUnitFault text tokens (NotUnit lex_state) = (at : ℕ) × IsNoUnit (roles_of text tokens) at × (lex_state ≡ (token_at tokens at).start)
HasUnitFault text tokens (NotEnded lex_state) = (at : ℕ) × IsUnended (roles_of text tokens) at × (lex_state ≡ (token_at tokens at).start)

-- What outlining gives: the units of the file, a fault, or out of memory.
abbrev pub Outlines : List ℕ → List Token → Result (List DesignUnit) (OrMemory UnitFault) → Type 0
Outlines text tokens (Ok units) = (elements : List Element) × IsOutline (roles_of text tokens) elements × (units ≡ units_of text tokens elements)
Outlines text tokens (Err NoMemory) = Unit {0}
Outlines text tokens (Err (Fault fault)) = HasUnitFault text tokens fault

-- the tokens are those of the text's cut
abbrev pub AreTokensOf : List ℕ → Tokens → Type 0
AreTokensOf text tokens = (lexical_elements : List LexicalElement) × IsCut text lexical_elements × AreOf lexical_elements tokens
