-- The files of the generated project, by how many packages it has, and by which of them is edited.
use Rattle.std.specs.Prelude.{ℕ, ◌+◌, ◌/◌, ◌==◌, Bool, true, false, nat_lt, if◌then◌else◌, List, [], ◌∷◌, ◌++◌, codes, map}
use Rattle.std.specs.Fmt.{decimal}
use Rattle.base.specs.declared.file.NamedText.{NamedText}
use Rattle.base.specs.PresentGraph.{below}

-- ## The project file

-- the path of the project file
unfoldable pub toml_path : List ℕ
toml_path = codes "vunit.toml"

-- one library, which has all sources
unfoldable pub toml_text : List ℕ
toml_text = codes "[[library]]" ++ (10 ∷ (codes "name = \"lib\"" ++ (10 ∷ (codes "files = [\"src/*.vhd\", \"tb.vhd\"]" ++ 10 ∷ []))))

-- ## A package

-- what the path of a package begins with, before its number
unfoldable pub source_folder : List ℕ
source_folder = codes "src/f"

-- what the path of a package ends with, after its number
unfoldable pub source_end : List ℕ
source_end = codes ".vhd"

-- the path of a package, by its number
abbrev pub package_path : ℕ → List ℕ
package_path number = source_folder ++ (decimal number ++ source_end)

-- the line that names the library, and the next one up to the number of the package that is used
unfoldable pub library_words : List ℕ
library_words = codes "library lib;" ++ (10 ∷ codes "use lib.p")

-- the end of the line that uses a package, after its number
unfoldable pub all_words : List ℕ
all_words = codes ".all;" ++ 10 ∷ []

-- the lines that make a package of a number visible
abbrev pub use_lines : ℕ → List ℕ
use_lines number = library_words ++ (decimal number ++ all_words)

-- the first line of a package, up to its number
unfoldable pub package_words : List ℕ
package_words = codes "package p"

-- from the number of a package to where it is named again: the package has one constant
unfoldable pub constant_words : List ℕ
constant_words = codes " is" ++ (10 ∷ (codes "  constant c : integer := 0;" ++ (10 ∷ codes "end package p")))

-- the end of a package, after its number
unfoldable pub end_words : List ℕ
end_words = codes ";" ++ 10 ∷ []

-- the package of a number, up to where it is named again
abbrev pub package_begin : ℕ → List ℕ
package_begin number = package_words ++ (decimal number ++ constant_words)

-- the end of the package of a number, from its number on
abbrev pub package_end : ℕ → List ℕ
package_end number = decimal number ++ end_words

-- the three lines of the package of a number
abbrev pub package_lines : ℕ → List ℕ
package_lines number = package_begin number ++ package_end number

-- the line that an edit adds to a package
unfoldable pub note_line : List ℕ
note_line = codes "-- child: note 1" ++ 10 ∷ []

-- what a package uses: the one of half its number, rounded down, and the first one nothing
abbrev pub used_lines : ℕ → List ℕ
used_lines number = if number == 1 then [] else use_lines (number / 2)

-- the line that an edit adds, or none
abbrev pub noted_lines : (noted : Bool) → List ℕ
noted_lines noted = if noted then note_line else []

-- the text of the file of a package
abbrev pub package_text : (number : ℕ) → (noted : Bool) → List ℕ
package_text number noted = used_lines number ++ (package_lines number ++ noted_lines noted)

-- ## The bench

-- the path of the file of the bench
unfoldable pub bench_path : List ℕ
bench_path = codes "tb.vhd"

-- the entity of the bench, which uses the first package
unfoldable pub bench_head : List ℕ
bench_head = codes "library lib;" ++ (10 ∷ (codes "use lib.p1.all;" ++ (10 ∷ (codes "entity tb is generic (runner_cfg : string); end;" ++ 10 ∷ []))))

-- the architecture of the bench, which has two cases
unfoldable pub bench_body : List ℕ
bench_body = codes "architecture a of tb is begin" ++ (10 ∷ (codes "  x <= run(\"one\");" ++ (10 ∷ (codes "  y <= run(\"two\");" ++ (10 ∷ (codes "end;" ++ 10 ∷ []))))))

-- ## All

-- the project file
abbrev pub toml_file : NamedText
toml_file = record { path = toml_path; bytes = toml_text }

-- the file of the bench, which uses the first package
abbrev pub bench_file : NamedText
bench_file = record { path = bench_path; bytes = bench_head ++ bench_body }

-- the file of a package, with the added line if its number is `edited`
abbrev pub package_file : (edited : ℕ) → (number : ℕ) → NamedText
package_file edited number = record { path = package_path number; bytes = package_text number (number == edited) }

-- the files of `count` packages, numbered from 1 on
abbrev pub packages : (edited : ℕ) → (count : ℕ) → List NamedText
packages edited count = map (λ before. package_file edited (before + 1)) (below count)

-- the generated project with `count` packages; the package with the number `edited` is edited, or none if no package has this
-- number
abbrev pub generated_files : (count : ℕ) → (edited : ℕ) → List NamedText
generated_files count edited = toml_file ∷ (bench_file ∷ packages edited count)

-- how many files it has in its library
abbrev pub files_in : (count : ℕ) → ℕ
files_in count = count + 1

-- the number of the edited package: 2, or 1 if there is at most one package
abbrev pub edited_package : (count : ℕ) → ℕ
edited_package count = if nat_lt 1 count then 2 else 1

-- no package has this number
abbrev pub unedited : ℕ
unedited = 0
