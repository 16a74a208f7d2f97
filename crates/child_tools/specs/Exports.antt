-- What the lines of artefacts export, and the references of a file to units that aren't there.
use Rattle.std.specs.Prelude.{ℕ, Bool, false, ◌&&◌, not, if◌then◌else◌, List, [], ◌∷◌, codes, Option, find}
use Rattle.std.specs.List.{flat_map, list_any}
use Rattle.std.specs.Option.{option_map_or, option_or}
use Rattle.std.specs.Str.{bytes_eq}
use Rattle.base.specs.declared.design.Scan.{Scan}
use Rattle.base.specs.declared.graph.BuiltFile.{BuiltFile}
use Rattle.base.specs.declared.refs.Ref.{Ref}
use Rattle.vhdl_spec.specs.References.{refs_of, work}
use Rattle.child_lines.specs.Lines.{after_word, in_library, lines}
use Rattle.vhdl_units.specs.UnitKeys.{unit_key}
use Rattle.vhdl_units.specs.declared.units.UnitKey.{UnitKey}

-- the primary unit that a line of an artefact is of
unfoldable pub exported_by : List ℕ → Option (List ℕ)
exported_by line =
    option_or (option_or (option_or (option_or
    (after_word (codes "unit entity ") line)
    (after_word (codes "unit configuration ") line))
    (after_word (codes "unit package ") line))
    (after_word (codes "unit instance ") line))
    (after_word (codes "unit context ") line)

-- a line exports a unit of this name
abbrev pub is_export : List ℕ → List ℕ → Bool
is_export name line = option_map_or (λ found. bytes_eq found name) (exported_by line) false

-- a line of an artefact exports a unit of this name
abbrev pub exports_unit : List ℕ → List ℕ → Bool
exports_unit artefact name = list_any (is_export name) (lines artefact)

-- ## Files that were built

-- one of the files is of this library
abbrev pub has_library : List BuiltFile → List ℕ → Bool
has_library files library = list_any (in_library library) files

-- one of the files is of this library, and exports a unit of this name
abbrev pub exports : List BuiltFile → UnitKey → Bool
exports files unit = list_any (λ file. in_library unit.library file && exports_unit file.artefact unit.name) files

-- one of the files is of the library of a unit, and none of that library exports the unit
abbrev pub is_missing : List BuiltFile → UnitKey → Bool
is_missing files unit = has_library files unit.library && not (exports files unit)

-- the first of these units that is missing, where one is
abbrev pub first_missing : List BuiltFile → List UnitKey → Option UnitKey
first_missing files units = find (is_missing files) units

-- ## References

-- the library that a reference names: `work` is the library of the file itself (13.2)
abbrev pub named_library : List ℕ → List ℕ → List ℕ
named_library own library = if bytes_eq library work then own else library

-- the unit that a strict reference of a file of this library names
unfoldable pub strict_unit : List ℕ → Ref → List UnitKey
strict_unit own ref = if ref.strict then unit_key (named_library own ref.library) ref.name ∷ [] else []

-- the units that the strict references of a file of this library name, in order
abbrev pub strict_units : List ℕ → List Ref → List UnitKey
strict_units own refs = flat_map (strict_unit own) refs

-- the units that the strict references of all units of a file name, in order
unfoldable pub wanted_units : List ℕ → List ℕ → Scan → List UnitKey
wanted_units own text scan = flat_map (λ unit. strict_units own (refs_of text scan.tokens.list unit)) scan.units
