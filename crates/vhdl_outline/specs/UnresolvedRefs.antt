-- What a design unit mentions, as tokens that are kept without those around them.
use Rattle.std.specs.Prelude.{◌≡◌, ℕ, Option, Some, None, List, [], ◌∷◌, map}
use Rattle.std.specs.List.{All}
use Rattle.base.specs.declared.child.MaybeText.{MaybeText}
use Rattle.base.specs.declared.child.MaybeText.TheVariants.{Nothing, Given}
use Rattle.base.specs.declared.design.Unit.{Unit as DesignUnit}
use Rattle.base.specs.declared.design.UnitKind.{UnitKind}
use Rattle.base.specs.declared.design.UnitKind.TheVariants as kinds
use Rattle.base.specs.declared.lexical.Token.{Token}
use Rattle.base.specs.declared.refs.Ref.{Ref}
use Rattle.vhdl_spec.specs.References.{context_refs, named_refs, owner_name, structural_by, structural_ref, uses_of_all}
use Rattle.vhdl_spec.specs.Units.{name_of, roles_of}
use Rattle.vhdl_lex.specs.LexicalElements.{LiesIn}
use Rattle.vhdl_units.specs.Names.{token_name}
use Rattle.vhdl_outline.specs.Components.{component_names}
use Rattle.vhdl_outline.specs.declared.unresolved.NamedRef.{NamedRef}
use Rattle.vhdl_outline.specs.declared.unresolved.UnresolvedRefs.{UnresolvedRefs}

-- the name of an architecture by a copy of its token, if there is one
abbrev pub named_architecture : List ℕ → Option Token → MaybeText
named_architecture text None = Nothing
named_architecture text (Some token) = Given (token_name text token)

-- the reference whose names are these tokens of a text
abbrev pub named_ref : List ℕ → NamedRef → Ref
named_ref text named = record { library = token_name text named.library; name = token_name text named.name; architecture = named_architecture text named.architecture; strict = named.strict; at = named.at }

-- a token, if there is one, ends within the text
abbrev pub SomeLiesIn : List ℕ → Option Token → Type 0
SomeLiesIn text None = Unit {0}
SomeLiesIn text (Some token) = LiesIn text token

-- the tokens that a reference was kept by end within the text
pub record NamedLiesIn (text : List ℕ) (named : NamedRef) : Type 0 where
  pub library : LiesIn text named.library
  pub name : LiesIn text named.name
  pub architecture : SomeLiesIn text named.architecture

-- The reference that a unit has by its structure, or none. A configuration configures this architecture.
abbrev pub structural_of : MaybeText → DesignUnit → UnitKind → List Ref
structural_of configured unit kinds.Architecture = structural_ref unit (owner_name unit.owner) Nothing ∷ []
structural_of configured unit kinds.Configuration = structural_ref unit (owner_name unit.owner) configured ∷ []
structural_of configured unit kinds.PackageBody = structural_ref unit unit.name Nothing ∷ []
structural_of configured unit _ = []

-- The unresolved references that are kept of a unit are those of its tokens: references to context declarations, structural
-- references, references by name, libraries that are used whole, and components. Example: `context work.ctx; package w is
-- constant k : integer := other.q.c; end;`. The tokens 1 and 3 are kept for the reference to a context declaration, and 1,
-- 3, 14 and 16 for the references by name.
pub record AreUnresolvedRefsOf (text : List ℕ) (tokens : List Token) (unit : DesignUnit) (unresolved : UnresolvedRefs) : Type 0 where
  pub contexts : map (named_ref text) unresolved.contexts ≡ context_refs text tokens unit
  pub structural : structural_of unresolved.configured unit unit.kind ≡ structural_by text tokens unit unit.kind
  pub refs : map (named_ref text) unresolved.refs ≡ named_refs text tokens unit
  pub whole : map (token_name text) unresolved.whole ≡ map (name_of text tokens) (uses_of_all (roles_of text tokens) unit)
  pub components : map (token_name text) unresolved.components ≡ component_names text tokens unit

-- all tokens that were kept of a unit end within the text
pub record UnresolvedRefsLieIn (text : List ℕ) (unresolved : UnresolvedRefs) : Type 0 where
  pub contexts : All (NamedLiesIn text) unresolved.contexts
  pub refs : All (NamedLiesIn text) unresolved.refs
  pub whole : All (LiesIn text) unresolved.whole
  pub components : All (LiesIn text) unresolved.components
