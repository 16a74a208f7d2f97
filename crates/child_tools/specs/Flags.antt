-- The wanted units that are found while artefacts are scanned.
use Rattle.std.specs.Prelude.{◌≡◌, ℕ, Bool, ◌||◌, if◌then◌else◌, List, [], Some, None, is_some}
use Rattle.std.specs.List.{list_any}
use Rattle.std.specs.Option.{option_map}
use Rattle.std.specs.Str.{bytes_eq}
use Rattle.base.specs.declared.graph.BuiltFile.{BuiltFile}
use Rattle.base_collections.specs.Maps.{Entries, get}
use Rattle.child_tools.specs.Exports.{exports, has_library}
use Rattle.vhdl_units.specs.UnitKeys.{is_same_unit, unit_key}
use Rattle.vhdl_units.specs.declared.units.UnitKey.{UnitKey}

-- the wanted units are the same, and one is found now exactly if it was found before or passes a test
abbrev pub Flags : (UnitKey → Bool) → Entries UnitKey Bool → Entries UnitKey Bool → Type 0
Flags test old new = (unit : UnitKey) → get is_same_unit new unit ≡ option_map (λ found. found || test unit) (get is_same_unit old unit)

-- exactly these units are wanted, and one is found exactly if the files export it
abbrev pub KnowsUnits : List BuiltFile → List UnitKey → Entries UnitKey Bool → Type 0
KnowsUnits files units flags = (unit : UnitKey) → get is_same_unit flags unit ≡ (if list_any (λ other. is_same_unit other unit) units then Some (exports files unit) else None)

-- ## Libraries

-- a library is among some, which are keys with empty names
abbrev pub has_key : Entries UnitKey Bool → List ℕ → Bool
has_key libraries library = is_some (get is_same_unit libraries (unit_key library []))

-- a set contains its old libraries and the given one, and no others
abbrev pub HasPut : List ℕ → Entries UnitKey Bool → Entries UnitKey Bool → Type 0
HasPut library old new = (other : List ℕ) → has_key new other ≡ (has_key old other || bytes_eq library other)

-- the libraries of the files
abbrev pub KnowsLibraries : List BuiltFile → Entries UnitKey Bool → Type 0
KnowsLibraries files libraries = (library : List ℕ) → has_key libraries library ≡ has_library files library
