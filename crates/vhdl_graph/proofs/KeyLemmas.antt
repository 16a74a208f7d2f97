-- Units by name: the tests of kinds and names are those of keys.
use Rattle.std.proofs.Common.{◌≡◌, ℕ, Bool, true, false, ◌&&◌, ◌||◌, not, List, refl, ◌∙◌}
use Rattle.std.specs.Str.{bytes_eq}
use Rattle.base.specs.declared.design.UnitKind.{UnitKind}
use Rattle.base.specs.declared.design.UnitKind.TheVariants as kinds
use Rattle.vhdl_spec.specs.References.{owner_name}
use Rattle.vhdl_spec.specs.Dependencies.{LinkUnit, in_library, is_alike, is_architecture, is_architecture_kind, is_body, is_body_kind, is_primary}
use Rattle.vhdl_spec.specs.Visibility.{is_secondary}
use Rattle.vhdl_spec.proofs.SomeTests.{and_false, and_true, or_none}
use Rattle.vhdl_graph.specs.Keys.{DesignUnitKey, architecture_key, body_key, is_same_key, key_of, primary_key, design_unit_key}
use Rattle.vhdl_graph.specs.KeyOrder.{keys_decide}

pub same_key : (a b : DesignUnitKey) → is_same_key a b ≡ true → a ≡ b
same_key a b told = (keys_decide a b).0 told

pub told_key : (a b : DesignUnitKey) → a ≡ b → is_same_key a b ≡ true
told_key a b same = (keys_decide a b).1 same

-- ## The tests of units, by kind

grouped : (a b c : Bool) → (a && b && c) ≡ (a && (b && c))
grouped true b c = refl
grouped false b c = refl

module _ (library name : List ℕ) (unit : LinkUnit) where
  primary_by : (kind : UnitKind) → (not (is_secondary kind) && in_library library unit && bytes_eq unit.scope.unit.name name) ≡ is_same_key (primary_key library name) (design_unit_key unit.scope.library unit.scope.unit kind)
  primary_by kinds.Entity = refl
  primary_by kinds.Architecture = refl
  primary_by kinds.Configuration = refl
  primary_by kinds.Package = refl
  primary_by kinds.PackageBody = refl
  primary_by kinds.PackageInstance = refl
  primary_by kinds.Context = refl

  pub primary_is : is_primary library name unit ≡ is_same_key (primary_key library name) (key_of unit)
  primary_is = primary_by unit.scope.unit.kind

  body_by : (kind : UnitKind) → (is_body_kind kind && in_library library unit && bytes_eq unit.scope.unit.name name) ≡ is_same_key (body_key library name) (design_unit_key unit.scope.library unit.scope.unit kind)
  body_by kinds.Entity = refl
  body_by kinds.Architecture = refl
  body_by kinds.Configuration = refl
  body_by kinds.Package = refl
  body_by kinds.PackageBody = refl
  body_by kinds.PackageInstance = refl
  body_by kinds.Context = refl

  pub body_is : is_body library name unit ≡ is_same_key (body_key library name) (key_of unit)
  body_is = body_by unit.scope.unit.kind

  module _ (entity : List ℕ) where
    architecture_by : (kind : UnitKind) → (is_architecture_kind kind && in_library library unit && bytes_eq (owner_name unit.scope.unit.owner) entity && bytes_eq unit.scope.unit.name name) ≡ is_same_key (architecture_key library entity name) (design_unit_key unit.scope.library unit.scope.unit kind)
    architecture_by kinds.Entity = refl
    architecture_by kinds.Architecture = grouped (in_library library unit) (bytes_eq (owner_name unit.scope.unit.owner) entity) (bytes_eq unit.scope.unit.name name)
    architecture_by kinds.Configuration = refl
    architecture_by kinds.Package = refl
    architecture_by kinds.PackageBody = refl
    architecture_by kinds.PackageInstance = refl
    architecture_by kinds.Context = refl

    pub architecture_is : is_architecture library entity name unit ≡ is_same_key (architecture_key library entity name) (key_of unit)
    architecture_is = architecture_by unit.scope.unit.kind

-- ## Units of one name

first_of : (x y z : Bool) → ((x && true) || (y && false) || (z && false)) ≡ x
first_of x y z = rw (and_true x, and_false y, and_false z, or_none x) (or_none x)

second_of : (x y z : Bool) → ((x && false) || (y && true) || (z && false)) ≡ y
second_of x y z = rw (and_false x, and_true y, and_false z) (or_none y)

third_of : (x y z : Bool) → ((x && false) || (y && false) || (z && true)) ≡ z
third_of x y z = rw (and_false x, and_false y, and_true z) refl

module _ (unit other : LinkUnit) where
  by_kind : (kind : UnitKind) →
      ((is_primary unit.scope.library unit.scope.unit.name other && not (is_secondary kind))
      || (is_architecture unit.scope.library (owner_name unit.scope.unit.owner) unit.scope.unit.name other && is_architecture_kind kind)
      || (is_body unit.scope.library unit.scope.unit.name other && is_body_kind kind))
      ≡ is_same_key (design_unit_key unit.scope.library unit.scope.unit kind) (key_of other)
  by_kind kind = of kind where
    p : Bool
    p = is_primary unit.scope.library unit.scope.unit.name other

    a : Bool
    a = is_architecture unit.scope.library (owner_name unit.scope.unit.owner) unit.scope.unit.name other

    b : Bool
    b = is_body unit.scope.library unit.scope.unit.name other

    of : (kind : UnitKind) → ((p && not (is_secondary kind)) || (a && is_architecture_kind kind) || (b && is_body_kind kind)) ≡ is_same_key (design_unit_key unit.scope.library unit.scope.unit kind) (key_of other)
    of kinds.Entity = first_of p a b ∙ primary_is unit.scope.library unit.scope.unit.name other
    of kinds.Architecture = second_of p a b ∙ architecture_is unit.scope.library unit.scope.unit.name other (owner_name unit.scope.unit.owner)
    of kinds.Configuration = first_of p a b ∙ primary_is unit.scope.library unit.scope.unit.name other
    of kinds.Package = first_of p a b ∙ primary_is unit.scope.library unit.scope.unit.name other
    of kinds.PackageBody = third_of p a b ∙ body_is unit.scope.library unit.scope.unit.name other
    of kinds.PackageInstance = first_of p a b ∙ primary_is unit.scope.library unit.scope.unit.name other
    of kinds.Context = first_of p a b ∙ primary_is unit.scope.library unit.scope.unit.name other

  pub alike_is : is_alike unit other ≡ is_same_key (key_of unit) (key_of other)
  alike_is = by_kind unit.scope.unit.kind
