-- Where the units of a file are among its tokens. `lead`, `first` and `last` of a unit are token numbers.
use Rattle.std.specs.Prelude.{◌≡◌, ℕ, ◌+◌, ◌*◌, ◌<◌, ◌≤◌, List, [], ◌∷◌, length, map}
use Rattle.base.specs.declared.lexical.Token.{Token}
use Rattle.base.specs.declared.child.MaybeText.{MaybeText}
use Rattle.base.specs.declared.child.MaybeText.TheVariants.{Nothing, Given}
use Rattle.base.specs.declared.design.UnitKind.{UnitKind}
use Rattle.base.specs.declared.design.UnitKind.TheVariants as kinds
use Rattle.base.specs.declared.design.Role.{Role}
use Rattle.base.specs.declared.design.Role.TheVariants.{Context, Entity, Architecture, Configuration, Package, Semicolon, Name}
use Rattle.base.specs.declared.design.Unit.{Unit as DesignUnit}
use Rattle.vhdl_spec.specs.Units.{role_at, roles_of, name_of, name_token, item, Follow, IsOwner}

-- the word that a unit begins with
abbrev pub keyword_of : UnitKind → Role
keyword_of kinds.Entity = Entity
keyword_of kinds.Architecture = Architecture
keyword_of kinds.Configuration = Configuration
keyword_of kinds.Package = Package
keyword_of kinds.PackageBody = Package
keyword_of kinds.PackageInstance = Package
keyword_of kinds.Context = Context

-- context items and nothing else, by the last token of each
pub record AreContextItems (roles : List Role) (lead first : ℕ) : Type 0 where
  pub lasts : List ℕ
  pub follow : Follow roles lead (map item lasts) first

-- at a token begin the names of an owner with the `is` after them, and the last name is the owner's
pub record IsOwnedBy (text : List ℕ) (tokens : List Token) (start last : ℕ) (owner : MaybeText) : Type 0 where
  pub before : ℕ
  pub names : IsOwner (roles_of text tokens) start before
  pub within : start + 2 * before + 1 < last
  pub given : owner ≡ Given (name_of text tokens (start + 2 * before))

-- an architecture and a configuration have an owner, and no other unit has one
abbrev pub HasOwner : List ℕ → List Token → ℕ → ℕ → MaybeText → UnitKind → Type 0
HasOwner text tokens start last owner kinds.Architecture = IsOwnedBy text tokens start last owner
HasOwner text tokens start last owner kinds.Configuration = IsOwnedBy text tokens start last owner
HasOwner text tokens start last owner _ = owner ≡ Nothing

-- A unit lies where its token numbers say. From `lead` to `first` are its context items alone, at `first` is its
-- keyword, at `last` its final `;`, and its name lies between. An architecture or configuration has the last name
-- before its `is` as owner, and no other unit has one.
pub record IsPlaced (text : List ℕ) (tokens : List Token) (unit : DesignUnit) : Type 0 where
  -- its context items, its keyword and its last token, in this order
  pub led : unit.lead ≤ unit.first
  pub ordered : unit.first < unit.last
  pub within : unit.last < length tokens
  -- what is at these tokens
  pub context : AreContextItems (roles_of text tokens) unit.lead unit.first
  pub keyword : role_at (roles_of text tokens) unit.first ≡ keyword_of unit.kind
  pub semicolon : role_at (roles_of text tokens) unit.last ≡ Semicolon
  -- its name, one or two tokens after the keyword
  pub name_within : name_token unit.kind unit.first < unit.last
  pub name_role : role_at (roles_of text tokens) (name_token unit.kind unit.first) ≡ Name
  pub named : unit.name ≡ name_of text tokens (name_token unit.kind unit.first)
  -- its owner, after the keyword, the name and `of`
  pub owned : HasOwner text tokens (unit.first + 3) unit.last unit.owner unit.kind

-- The context part of each unit begins right after the unit before it, and that of the first one at a given token.
abbrev pub FollowOn : ℕ → List DesignUnit → Type 0
FollowOn lead [] = Unit {0}
FollowOn lead (unit ∷ units) = (unit.lead ≡ lead) × FollowOn (unit.last + 1) units
