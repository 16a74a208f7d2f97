-- What the package of a file refers to, by its number: a package of the generated project as a unit of a project.
use Rattle.std.specs.Prelude.{ℕ, ◌/◌, Bool, true, if◌then◌else◌, List, [], ◌∷◌, codes}
use Rattle.base.specs.declared.child.MaybeText.TheVariants.{Nothing}
use Rattle.base.specs.declared.project.ProjectFile.{ProjectFile}
use Rattle.base.specs.declared.refs.Ref.{Ref}
use Rattle.vhdl_spec.specs.Dependencies.{LinkUnit}
use Rattle.vhdl_spec.specs.Visibility.{ScopeUnit}
use Rattle.generated_sources.specs.PackageScans.{is_alone, package_name, package_unit}

-- the library that a file names
unfoldable pub used_library : List ℕ
used_library = codes "lib"

-- the reference to a package of that library, after `use`
abbrev pub used_ref : List ℕ → Ref
used_ref name = record { library = used_library; name = name; architecture = Nothing; strict = true; at = 4 }

-- what the package of a file refers to: nothing, or one package of `lib` by its name
abbrev pub file_refs : (alone : Bool) → (used : List ℕ) → List Ref
file_refs alone used = if alone then [] else used_ref used ∷ []

-- the library names in the library clauses of a package's file: none, or `lib` alone
abbrev pub file_libraries : (alone : Bool) → List (List ℕ)
file_libraries alone = if alone then [] else used_library ∷ []

-- the package refers to that of half its number, and the first one to none
abbrev pub package_refs : (number : ℕ) → List Ref
package_refs number = file_refs (is_alone number) (package_name (number / 2))

-- the package in a library, with the names of its library clauses: it names no context declaration
abbrev pub package_scope : (library : List ℕ) → (number : ℕ) → ScopeUnit
package_scope library number = record { library = library; unit = package_unit number; names = file_libraries (is_alone number); contexts = []; configured = Nothing }

-- the package of a file at a position of a project: it uses no library whole
abbrev pub package_link : (position : ℕ) → ProjectFile → (number : ℕ) → LinkUnit
package_link position file number = record { file = file; position = position; scope = package_scope file.name.library number; refs = package_refs number; whole = [] }
