-- The artefacts that the compiler that is part of the program makes of the files of the generated project: a line for each
-- unit, and then one for each script line. Each ends with a line feed.
use Rattle.std.specs.Prelude.{ℕ, Bool, if◌then◌else◌, List, [], ◌∷◌, ◌++◌, codes}
use Rattle.generated_sources.specs.PackageScans.{package_name}

-- the line of a package, up to its name
unfoldable pub package_line_words : List ℕ
package_line_words = codes "unit package "

-- the line of the comment of an edited file
unfoldable pub script_words : List ℕ
script_words = codes "script note 1" ++ 10 ∷ []

-- the script line of an edited file, and no byte for a plain one
abbrev pub script_lines : (noted : Bool) → List ℕ
script_lines noted = if noted then script_words else []

-- the artefact of a file whose package has this name
abbrev pub named_artefact : (name : List ℕ) → (noted : Bool) → List ℕ
named_artefact name noted = package_line_words ++ (name ++ (10 ∷ script_lines noted))

-- the artefact of the package of a number, by whether its file is edited
abbrev pub package_artefact : (number : ℕ) → (noted : Bool) → List ℕ
package_artefact number noted = named_artefact (package_name number) noted

-- that of the bench: an entity and its architecture
unfoldable pub bench_artefact : List ℕ
bench_artefact = codes "unit entity tb" ++ (10 ∷ (codes "unit architecture a of tb" ++ 10 ∷ []))
