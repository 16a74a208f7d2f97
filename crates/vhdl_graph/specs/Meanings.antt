-- What a reference means in a visible library: what is missing of it, and which units it names.
use Rattle.std.specs.Prelude.{ℕ, Bool, not, ◌&&◌, ◌||◌, if◌then◌else◌, Option, Some, None, List}
use Rattle.std.specs.List.{list_any}
use Rattle.base.specs.declared.file.FileName.{FileName}
use Rattle.base.specs.declared.linking.LinkFault.{LinkFault}
use Rattle.base.specs.declared.linking.LinkFault.TheVariants.{MissingUnit, MissingArchitecture}
use Rattle.base.specs.declared.project.Project.{Project}
use Rattle.base.specs.declared.refs.Ref.{Ref}
use Rattle.vhdl_spec.specs.References.{owner_name}
use Rattle.vhdl_spec.specs.Dependencies.{LinkUnit, is_body, is_external, is_given_architecture, is_package_kind, is_primary, lacks_given}

-- what is missing of a reference of a file that means a unit of a library
abbrev pub missing_units : List LinkUnit → FileName → List ℕ → Ref → Option LinkFault
missing_units units file library ref =
    if not (list_any (is_primary library ref.name) units) then Some (MissingUnit file library ref.name)
    else if lacks_given units library ref.name ref.architecture then Some (MissingArchitecture file library ref.name (owner_name ref.architecture))
    else None

-- what is missing of a reference of a file to a library
abbrev pub missing_in : Project → List LinkUnit → FileName → List ℕ → Ref → Option LinkFault
missing_in project units file library ref =
    if ref.strict && not (is_external project library) then missing_units units file library ref else None

-- a reference to a library names a unit
abbrev pub names_in : Bool → List LinkUnit → List ℕ → Ref → LinkUnit → Bool
names_in bodies units library ref unit =
    is_primary library ref.name unit || is_given_architecture library ref.name ref.architecture unit
    || bodies && is_body library ref.name unit && list_any (λ other. is_primary library ref.name other && is_package_kind other.scope.unit.kind) units
