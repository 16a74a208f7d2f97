-- The names of design units, by which they are found.
use Rattle.std.specs.Prelude.{ℕ, Bool, true, false, ◌&&◌, List, []}
use Rattle.std.specs.Str.{bytes_eq}
use Rattle.base.specs.declared.design.Unit.{Unit as DesignUnit}
use Rattle.base.specs.declared.design.UnitKind.{UnitKind}
use Rattle.base.specs.declared.design.UnitKind.TheVariants as kinds
use Rattle.vhdl_spec.specs.References.{owner_name}
use Rattle.vhdl_spec.specs.Dependencies.{LinkUnit}
use Rattle.vhdl_units.specs.KeyParts.{is_same_flag}

-- what names a design unit
pub record DesignUnitKey : Type 0 where
  pub primary : Bool
  pub body : Bool
  pub library : List ℕ
  pub entity : List ℕ
  pub name : List ℕ

-- whether two keys have the same kind, library, entity and name
abbrev pub is_same_key : DesignUnitKey → DesignUnitKey → Bool
is_same_key a b = is_same_flag a.primary b.primary && (is_same_flag a.body b.body && (bytes_eq b.library a.library && (bytes_eq b.entity a.entity && bytes_eq b.name a.name)))

-- the primary units of a name in a library
abbrev pub primary_key : List ℕ → List ℕ → DesignUnitKey
primary_key library name = record { primary = true; body = false; library = library; entity = []; name = name }

-- the architectures of a name of one entity
abbrev pub architecture_key : List ℕ → List ℕ → List ℕ → DesignUnitKey
architecture_key library entity name = record { primary = false; body = false; library = library; entity = entity; name = name }

-- the bodies of a package
abbrev pub body_key : List ℕ → List ℕ → DesignUnitKey
body_key library name = record { primary = false; body = true; library = library; entity = []; name = name }

-- the name of a unit of a library
abbrev pub design_unit_key : List ℕ → DesignUnit → UnitKind → DesignUnitKey
design_unit_key library unit kinds.Architecture = architecture_key library (owner_name unit.owner) unit.name
design_unit_key library unit kinds.PackageBody = body_key library unit.name
design_unit_key library unit _ = primary_key library unit.name

-- the key of a unit of a project
abbrev pub key_of : LinkUnit → DesignUnitKey
key_of unit = design_unit_key unit.scope.library unit.scope.unit unit.scope.unit.kind
