-- Where a file that was built exports a unit, the unit isn't missing.
use Rattle.std.proofs.Common.{◌≡◌, ℕ, ◌^◌, ◌<◌, Bool, true, false, not, ◌&&◌, ◌||◌, cond, List, ◌∷◌, ◌++◌, Some, refl, ap, ◌∙◌}
use Rattle.std.specs.List.{Contains}
use Rattle.std.proofs.lemmas.List.Folds.{list_any_at, list_any-append}
use Rattle.std.proofs.lemmas.Slice.Eq.{bytes_eq-Decides}
use Rattle.base.specs.declared.graph.BuiltFile.{BuiltFile}
use Rattle.child_lines.specs.Lines.{in_library}
use Rattle.child_tools.specs.Exports.{exports, exports_unit, first_missing, has_library, is_missing}
use Rattle.vhdl_units.specs.UnitKeys.{unit_key}
use Rattle.vhdl_units.specs.declared.units.UnitKey.{UnitKey}
use Rattle.generated_sources.specs.PackageLinks.{used_library}
use Rattle.generated_sources.specs.PackageScans.{package_name}
use Rattle.generated_children.proofs.ExportLines.{package_exports}
use Rattle.generated_children.specs.CompiledFiles.{HasPackage}

-- a file exports a unit
abbrev pub is_exporter : UnitKey → BuiltFile → Bool
is_exporter unit file = in_library unit.library file && exports_unit file.artefact unit.name

-- a unit of the library `lib`
abbrev pub lib_unit : List ℕ → UnitKey
lib_unit name = unit_key used_library name

pub one_exports : (unit : UnitKey) (file : BuiltFile) → file.name.library ≡ unit.library → exports_unit file.artefact unit.name ≡ true → is_exporter unit file ≡ true
one_exports unit file library is =
    ap (λ (test : Bool). test && exports_unit file.artefact unit.name) ((bytes_eq-Decides file.name.library unit.library).1 library) ∙ is

exports_one : (unit : UnitKey) (files : List BuiltFile) (file : BuiltFile) → Contains files file → is_exporter unit file ≡ true → exports files unit ≡ true
exports_one unit files file among is = list_any_at (is_exporter unit) files among.0 file among.1 (ap (is_exporter unit) among.2 ∙ is)

pub package_is_exported : (number : ℕ) (files : List BuiltFile) → number < 2 ^ 64 → HasPackage number files → exports files (lib_unit (package_name number)) ≡ true
package_is_exported number files small has =
    exports_one (lib_unit (package_name number)) files has.file has.among (one_exports (lib_unit (package_name number)) has.file has.is.library (
    ap (λ (artefact : List ℕ). exports_unit artefact (package_name number)) has.is.artefact ∙ package_exports number has.is.noted small))

or_true : (test : Bool) → (test || true) ≡ true
or_true true = refl
or_true false = refl

-- what one of the files exports, more files export too
pub before_export : (unit : UnitKey) (files others : List BuiltFile) → exports files unit ≡ true → exports (files ++ others) unit ≡ true
before_export unit files others is = list_any-append (is_exporter unit) files others ∙ ap (λ (test : Bool). test || exports others unit) is

pub after_export : (unit : UnitKey) (files others : List BuiltFile) → exports others unit ≡ true → exports (files ++ others) unit ≡ true
after_export unit files others is =
    list_any-append (is_exporter unit) files others ∙ ap (λ (test : Bool). exports files unit || test) is ∙ or_true (exports files unit)

and_false : (test : Bool) → (test && false) ≡ false
and_false true = refl
and_false false = refl

pub not_missing : (files : List BuiltFile) (unit : UnitKey) → exports files unit ≡ true → is_missing files unit ≡ false
not_missing files unit is = ap (λ (test : Bool). has_library files unit.library && not test) is ∙ and_false (has_library files unit.library)

-- a unit that isn't missing is passed over
pub missing_more : (files : List BuiltFile) (unit : UnitKey) (units : List UnitKey) → exports files unit ≡ true → first_missing files (unit ∷ units) ≡ first_missing files units
missing_more files unit units is = ap (λ (test : Bool). cond test (Some unit) (first_missing files units)) (not_missing files unit is)
