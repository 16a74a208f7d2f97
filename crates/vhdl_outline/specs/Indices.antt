-- Where the references of a unit are.
use Rattle.std.specs.Prelude.{◌≡◌, ℕ, ◌+◌, ◌<◌, List, length, map}
use Rattle.std.specs.List.{All}
use Rattle.base.specs.declared.design.Role.{Role}
use Rattle.base.specs.declared.design.Unit.{Unit as DesignUnit}
use Rattle.vhdl_spec.specs.References.{context_end, is_context_ref, is_reference, is_strict, indices}
use Rattle.vhdl_outline.specs.declared.indices.RefIndex.{RefIndex}

-- a reference at the token of its library, and whether it is strict
abbrev pub ref_index : List Role → ℕ → RefIndex
ref_index roles at = record { at = at; strict = is_strict roles at }

-- the references by name from one token up to another, in order
abbrev pub refs_between : List Role → ℕ → ℕ → List RefIndex
refs_between roles start end = map (ref_index roles) (indices (is_reference roles) start end)

-- the references of a unit to context declarations, in order
abbrev pub context_indices : List Role → DesignUnit → List RefIndex
context_indices roles unit = map (ref_index roles) (indices (is_context_ref roles) unit.lead (context_end unit))

-- the unit's name, two tokens after the library's, is in the file; and the reference is strict as the definition says
pub record IsRefIndex (roles : List Role) (token_index : RefIndex) : Type 0 where
  pub within : token_index.at + 2 < length roles
  pub strict : token_index.strict ≡ is_strict roles token_index.at

-- each reference that was found lies in the file, and is strict as the definition says
abbrev pub AreRefIndices : List Role → List RefIndex → Type 0
AreRefIndices roles found = All (IsRefIndex roles) found
