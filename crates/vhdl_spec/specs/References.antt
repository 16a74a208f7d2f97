-- The references of a design unit to names in libraries (IEEE Std 1076-2008, clauses 3.3, 3.4, 4.8 and 13, in this
-- project's lenient profile). A reference is an index among the tokens of a file; whether one is there, and of what kind,
-- is read off the tokens around it.
use Rattle.std.specs.Prelude.{◌≡◌, ◌≢◌, ℕ, zero, suc, ◌+◌, ◌-◌, ◌<◌, ◌≤◌, ◌⊎◌, IsTrue, Bool, true, false, ◌&&◌, ◌||◌, not, nat_lt, if◌then◌else◌, Option, List, [], ◌∷◌, ◌++◌, length, map, filter, take, reverse, codes}
use Rattle.std.specs.List.{find, list_any, range_with_len, take_while}
use Rattle.std.specs.Option.{option_map_or}
use Rattle.base.specs.declared.lexical.Token.{Token}
use Rattle.base.specs.declared.child.MaybeText.{MaybeText}
use Rattle.base.specs.declared.child.MaybeText.TheVariants.{Nothing, Given}
use Rattle.base.specs.declared.design.UnitKind.{UnitKind}
use Rattle.base.specs.declared.design.UnitKind.TheVariants as kinds
use Rattle.base.specs.declared.design.Role.{Role}
use Rattle.base.specs.declared.design.Role.TheVariants.{Library, Use, Context, Entity, Configuration, Is, New, For, All, Semicolon, Colon, Dot, Comma, Name, Other}
use Rattle.base.specs.declared.design.Unit.{Unit as DesignUnit}
use Rattle.base.specs.declared.refs.Ref.{Ref}
use Rattle.vhdl_spec.specs.Units.{is_opening, is_closing, role_at, roles_of, name_of}

-- ## Tokens around an index

-- the role of the token before
abbrev pub role_before : List Role → ℕ → Role
role_before roles zero = Other
role_before roles (suc before) = role_at roles before

-- `;`
abbrev pub is_semicolon : Role → Bool
is_semicolon Semicolon = true
is_semicolon _ = false

-- `is` ends the header of a context declaration
abbrev pub ends_item : Role → Bool
ends_item Semicolon = true
ends_item Is = true
ends_item _ = false

-- the roles of the tokens before an index, nearest first, back to the first that passes a test
abbrev pub back_to : (Role → Bool) → List Role → ℕ → List Role
back_to ends roles at = take_while (λ role. not (ends role)) (reverse (take at roles))

-- the token numbers from one up to another that pass a test, rising
abbrev pub indices : (ℕ → Bool) → ℕ → ℕ → List ℕ
indices test start end = filter test (range_with_len start (end - start))

-- ## References by name

-- `,`
abbrev pub is_comma : Role → Bool
is_comma Comma = true
is_comma _ = false

-- the words that a list of selected names follows (12.4, 13.4)
abbrev pub lists_names : Role → Bool
lists_names Use = true
lists_names Context = true
lists_names _ = false

-- the words after which a selected name can't mean anything but a design unit or what it declares
abbrev pub precedes_unit : Role → Bool
precedes_unit Use = true
precedes_unit Context = true
precedes_unit Entity = true
precedes_unit Configuration = true
precedes_unit New = true
precedes_unit _ = false

-- a name that isn't a reserved word
abbrev pub is_name : Role → Bool
is_name Name = true
is_name _ = false

-- `.`
abbrev pub is_dot : Role → Bool
is_dot Dot = true
is_dot _ = false

-- a reference is at the index: NAME `.` NAME, and no `.` before them (8.3)
abbrev pub is_reference : List Role → ℕ → Bool
is_reference roles at = is_name (role_at roles at) && is_dot (role_at roles (at + 1)) && is_name (role_at roles (at + 2)) && not (is_dot (role_before roles at))

-- the index is between a `use` or a `context` and its `;`
abbrev pub is_in_name_list : List Role → ℕ → Bool
is_in_name_list roles at = list_any lists_names (back_to is_semicolon roles at)

-- whether a reference can't mean anything but a design unit, by what comes before it
abbrev pub is_strict : List Role → ℕ → Bool
is_strict roles at = precedes_unit (role_before roles at) || (is_comma (role_before roles at) && is_in_name_list roles at)

-- `entity`
abbrev pub is_entity_word : Role → Bool
is_entity_word Entity = true
is_entity_word _ = false

-- `entity` L `.` U `(` NAME `)` (7.3.2.2, 11.7)
abbrev pub has_architecture : List Role → ℕ → Bool
has_architecture roles at = is_entity_word (role_before roles at) && is_opening (role_at roles (at + 3)) && is_name (role_at roles (at + 4)) && is_closing (role_at roles (at + 5))

-- `use`
abbrev pub is_use_word : Role → Bool
is_use_word Use = true
is_use_word _ = false

-- `for`
abbrev pub is_for : Role → Bool
is_for For = true
is_for _ = false

-- what follows a label in the list of the instances that are configured (7.3.1)
abbrev pub follows_label : Role → Bool
follows_label Comma = true
follows_label Colon = true
follows_label _ = false

-- `use` `entity` L `.` U `;` `for` NAME: the block configuration in a component configuration, whose NAME is an
-- architecture of the entity (3.4.2, 3.4.3). After the NAME there is no `:` or `,`: it would be the label of an instance
abbrev pub has_block : List Role → ℕ → Bool
has_block roles at = is_use_word (role_before roles (at - 1)) && is_entity_word (role_before roles at) && is_semicolon (role_at roles (at + 3)) && is_for (role_at roles (at + 4)) && is_name (role_at roles (at + 5)) && not (follows_label (role_at roles (at + 6)))

-- a configuration declaration
abbrev pub is_configuration : UnitKind → Bool
is_configuration kinds.Configuration = true
is_configuration _ = false

-- the architecture that is given with an entity in a unit of a kind: in parentheses, or in a configuration declaration
-- by a block configuration
abbrev pub architecture_at : List ℕ → List Token → UnitKind → ℕ → MaybeText
architecture_at text tokens kind at =
    if has_architecture (roles_of text tokens) at then Given (name_of text tokens (at + 4))
    else (if is_configuration kind && has_block (roles_of text tokens) at then Given (name_of text tokens (at + 5))
    else Nothing)

-- the reference at an index, in a unit of a kind
abbrev pub ref_at : List ℕ → List Token → UnitKind → ℕ → Ref
ref_at text tokens kind at = record { library = name_of text tokens at; name = name_of text tokens (at + 2); architecture = architecture_at text tokens kind at; strict = is_strict (roles_of text tokens) at; at = at }

-- the references by name among all tokens of a unit, in order
abbrev pub named_refs : List ℕ → List Token → DesignUnit → List Ref
named_refs text tokens unit = map (ref_at text tokens unit.kind) (indices (is_reference (roles_of text tokens)) unit.lead unit.last)

-- ## References by structure

-- the name by which a unit refers to its own library
abbrev pub work : List ℕ
work = codes "work"

-- the name of a unit's owner, empty if the unit has no owner
abbrev pub owner_name : MaybeText → List ℕ
owner_name Nothing = []
owner_name (Given name) = name

-- the first `for` from one token up to another
abbrev pub first_for : List Role → ℕ → ℕ → Option ℕ
first_for roles start end = find (λ at. is_for (role_at roles at)) (range_with_len start (end - start))

-- a name, where the role of its token is that of a name
abbrev pub name_if : Role → List ℕ → MaybeText
name_if Name name = Given name
name_if _ name = Nothing

-- the architecture that a configuration configures: the NAME after its first `for` (3.4)
abbrev pub configured : List ℕ → List Token → DesignUnit → MaybeText
configured text tokens unit = option_map_or (λ at. name_if (role_at (roles_of text tokens) (at + 1)) (name_of text tokens (at + 1))) (first_for (roles_of text tokens) unit.first unit.last) Nothing

-- a name in the library of the unit itself, at the unit's keyword
abbrev pub structural_ref : DesignUnit → List ℕ → MaybeText → Ref
structural_ref unit name architecture = record { library = work; name = name; architecture = architecture; strict = true; at = unit.first }

-- an architecture refers to its entity (3.3), a configuration to its entity and an architecture of it (3.4), and a
-- package body to its package (4.8)
abbrev pub structural_by : List ℕ → List Token → DesignUnit → UnitKind → List Ref
structural_by text tokens unit kinds.Architecture = structural_ref unit (owner_name unit.owner) Nothing ∷ []
structural_by text tokens unit kinds.Configuration = structural_ref unit (owner_name unit.owner) (configured text tokens unit) ∷ []
structural_by text tokens unit kinds.PackageBody = structural_ref unit unit.name Nothing ∷ []
structural_by text tokens unit _ = []

-- ## The references of a unit

-- The references of a unit: first the one by its structure, if there is one, and then those by name in its context
-- part and its tokens, in order. In `context work.ctx; package w is constant k : integer := other.q.c; end;` the
-- package has `work.ctx`, strict, at token 1, and `other.q`, loose, at token 14. `q.c` isn't a reference, since a `.`
-- is before `q`.
abbrev pub refs_of : List ℕ → List Token → DesignUnit → List Ref
refs_of text tokens unit = structural_by text tokens unit unit.kind ++ named_refs text tokens unit

-- ## Context items

-- a context declaration
abbrev pub is_context_kind : UnitKind → Bool
is_context_kind kinds.Context = true
is_context_kind _ = false

-- `context`
abbrev pub is_context_word : Role → Bool
is_context_word Context = true
is_context_word _ = false

-- `library`
abbrev pub is_library_word : Role → Bool
is_library_word Library = true
is_library_word _ = false

-- where the context items of a unit end: at its keyword, and those of a context declaration at its last token
abbrev pub context_end : DesignUnit → ℕ
context_end unit = if is_context_kind unit.kind then unit.last else unit.first

-- a reference after `context`, or after a comma of such an item: `context a.b, c.d;` (13.4)
abbrev pub is_context_ref : List Role → ℕ → Bool
is_context_ref roles at = is_reference roles at && (is_context_word (role_before roles at) || is_comma (role_before roles at)) && list_any is_context_word (back_to ends_item roles at)

-- the references of a unit to context declarations, whose libraries these hand on
abbrev pub context_refs : List ℕ → List Token → DesignUnit → List Ref
context_refs text tokens unit = map (ref_at text tokens unit.kind) (indices (is_context_ref (roles_of text tokens)) unit.lead (context_end unit))

-- the token that begins the clause of an index: the one after the nearest `;` before it
abbrev pub clause_start : List Role → ℕ → ℕ
clause_start roles at = at - length (back_to is_semicolon roles at)

-- the index is between `library` and its `;` (13.2). Before the unit's keyword `library` begins the clause; inside a
-- context declaration it may be anywhere
abbrev pub is_in_library_clause : List Role → ℕ → ℕ → Bool
is_in_library_clause roles first at = if nat_lt at first then is_library_word (role_at roles (clause_start roles at)) else list_any is_library_word (back_to is_semicolon roles at)

-- a name in a library clause of a unit whose keyword is the token `first`
abbrev pub is_library_name : List Role → ℕ → ℕ → Bool
is_library_name roles first at = is_name (role_at roles at) && is_in_library_clause roles first at

-- the names of the library clauses of a unit
abbrev pub library_names : List ℕ → List Token → DesignUnit → List (List ℕ)
library_names text tokens unit = map (name_of text tokens) (indices (is_library_name (roles_of text tokens) unit.first) unit.lead (context_end unit))

-- ## `use L.all`

-- `all`
abbrev pub is_all_word : Role → Bool
is_all_word All = true
is_all_word _ = false

-- NAME `.` `all`
abbrev pub is_all_of : List Role → ℕ → Bool
is_all_of roles at = is_name (role_at roles at) && is_dot (role_at roles (at + 1)) && is_all_word (role_at roles (at + 2))

-- the index is between a `use` and its `;`
abbrev pub is_in_use_list : List Role → ℕ → Bool
is_in_use_list roles at = list_any is_use_word (back_to is_semicolon roles at)

-- the index is after `use`, or after a comma of what is listed there: `use a.b, c.d;` (12.4)
abbrev pub is_used : List Role → ℕ → Bool
is_used roles at = is_use_word (role_before roles at) || (is_comma (role_before roles at) && is_in_use_list roles at)

-- L `.` `all` after `use` or a comma of its list, at its L
abbrev pub is_use_of_all : List Role → ℕ → Bool
is_use_of_all roles at = is_all_of roles at && is_used roles at

-- the token numbers of the L of each `L.all` that a unit uses, rising
abbrev pub uses_of_all : List Role → DesignUnit → List ℕ
uses_of_all roles unit = indices (is_use_of_all roles) unit.lead unit.last

-- ## What the way back to a token says

-- a token before an index passes a test, and no token from it up to the index ends the way back
pub record IsBackAt (test ends : Role → Bool) (roles : List Role) (at : ℕ) : Type 0 where
  pub token_index : ℕ
  pub before : token_index < at
  pub passes : IsTrue (test (role_at roles token_index))
  pub open_since : (between : ℕ) → token_index ≤ between → between < at → ends (role_at roles between) ≡ false

-- The clause of an index begins at a token: the file does, or a `;` is before it, and none between both.
pub record BeginsClauseOf (roles : List Role) (start at : ℕ) : Type 0 where
  pub within : start ≤ at
  pub after : (start ≡ 0) ⊎ ((before : ℕ) × (start ≡ before + 1) × (role_at roles before ≡ Semicolon))
  pub open_since : (between : ℕ) → start ≤ between → between < at → role_at roles between ≢ Semicolon
