-- How long the names, texts and artefacts of packages are.
use Rattle.std.proofs.Common.{◌≡◌, ◌≢◌, ℕ, ◌+◌, ◌*◌, ◌/◌, ◌^◌, ◌<◌, ◌≤◌, Bool, true, false, List, [], ◌∷◌, ◌++◌, length, refl, sym, ap, subst, ◌∙◌, arith, length-append}
use Rattle.std.specs.Prelude.{if◌then◌else◌}
use Rattle.std.specs.Fmt.{decimal}
use Rattle.std.proofs.lemmas.Fmt.{length-decimal-le}
use Rattle.base.specs.Graphs.{IsBuiltFile}
use Rattle.base.specs.declared.file.FileName.{FileName}
use Rattle.base.specs.declared.graph.BuiltFile.{BuiltFile}
use Rattle.base.specs.declared.limits.TheConstants.{ARTEFACT_LIMIT, TEXT_LIMIT}
use Rattle.base.specs.Names.{FitsName}
use Rattle.generated_project.specs.Files.{library_words, all_words, package_words, constant_words, end_words, note_line, source_folder, source_end, package_path, package_text}
use Rattle.generated_sources.proofs.PackageParts.{file_text}
use Rattle.generated_sources.specs.PackageLinks.{used_library}
use Rattle.generated_sources.specs.PackageScans.{is_alone, lines_end, package_start}
use Rattle.generated_children.specs.CompiledFiles.{IsPackageBuilt}
use Rattle.generated_children.specs.CompiledTexts.{package_artefact, script_lines, script_words, package_line_words}

pub digits_few : (number : ℕ) → number < 2 ^ 64 → length (decimal number) ≤ 20
digits_few number small = length-decimal-le 20 number (omega arith) (omega (arith, small)) small

-- ## Artefacts

unit_size : length package_line_words ≡ 13
unfolding package_line_words
unit_size = refl

script_size : length script_words ≡ 14
unfolding script_words
script_size = refl

scripts_size : (noted : Bool) → length (script_lines noted) ≤ 14
scripts_size true = omega (arith, script_size)
scripts_size false = omega arith

-- how long an artefact is, by its digits and its script lines
artefact_size : (number : ℕ) (noted : Bool) → length (package_artefact number noted) ≡ 15 + length (decimal number) + length (script_lines noted)
artefact_size number noted =
    let whole : length (package_line_words ++ ((112 ∷ decimal number) ++ (10 ∷ script_lines noted))) ≡ length package_line_words + length ((112 ∷ decimal number) ++ (10 ∷ script_lines noted)) = length-append package_line_words ((112 ∷ decimal number) ++ (10 ∷ script_lines noted)) in
    let name : length (decimal number ++ (10 ∷ script_lines noted)) ≡ length (decimal number) + length (10 ∷ script_lines noted) = length-append (decimal number) (10 ∷ script_lines noted) in
    let behind : length ((112 ∷ decimal number) ++ (10 ∷ script_lines noted)) ≡ 1 + length (decimal number ++ (10 ∷ script_lines noted)) = omega arith in
    let line : length (10 ∷ script_lines noted) ≡ 1 + length (script_lines noted) = omega arith in
    omega (arith, whole, name, behind, line, unit_size)

pub artefact_small : (number : ℕ) (noted : Bool) → number < 2 ^ 64 → length (package_artefact number noted) ≤ ARTEFACT_LIMIT
artefact_small number noted small = omega (arith, artefact_size number noted, digits_few number small, scripts_size noted)

-- of an edited file it is another one
pub artefacts_differ : (number : ℕ) → package_artefact number true ≢ package_artefact number false
artefacts_differ number same =
    let sizes : length (package_artefact number true) ≡ length (package_artefact number false) = ap (λ (bytes : List ℕ). length bytes) same in
    let none : length (script_lines false) ≡ 0 = refl in
    let some : length (script_lines true) ≡ 14 = script_size in
    omega (arith, sizes, artefact_size number true, artefact_size number false, none, some)

-- ## Texts

library_size : length library_words ≡ 22
unfolding library_words
library_size = refl

all_size : length all_words ≡ 6
unfolding all_words
all_size = refl

package_size : length package_words ≡ 9
unfolding package_words
package_size = refl

constant_size : length constant_words ≡ 46
unfolding constant_words
constant_size = refl

end_size : length end_words ≡ 2
unfolding end_words
end_size = refl

note_size : length note_line ≡ 17
unfolding note_line
note_size = refl

-- the lines that make a package with these digits visible, if any
abbrev pub lines_before : (alone : Bool) → (used : List ℕ) → List ℕ
lines_before alone used = if alone then [] else library_words ++ (used ++ all_words)

-- those of a package with these digits
abbrev pub own_lines : (digits : List ℕ) → List ℕ
own_lines digits = (package_words ++ (digits ++ constant_words)) ++ (digits ++ end_words)

before_size : (alone : Bool) (used : List ℕ) → length (lines_before alone used) ≡ package_start alone (length used)
before_size true used = refl
before_size false used =
    let whole : length (library_words ++ (used ++ all_words)) ≡ length library_words + length (used ++ all_words) = length-append library_words (used ++ all_words) in
    let name : length (used ++ all_words) ≡ length used + length all_words = length-append used all_words in
    omega (arith, whole, name, library_size, all_size)

lines_size : (digits : List ℕ) → length (own_lines digits) ≡ 2 * length digits + 57
lines_size digits =
    let whole : length (own_lines digits) ≡ length (package_words ++ (digits ++ constant_words)) + length (digits ++ end_words) = length-append (package_words ++ (digits ++ constant_words)) (digits ++ end_words) in
    let begin : length (package_words ++ (digits ++ constant_words)) ≡ length package_words + length (digits ++ constant_words) = length-append package_words (digits ++ constant_words) in
    let name : length (digits ++ constant_words) ≡ length digits + length constant_words = length-append digits constant_words in
    let last : length (digits ++ end_words) ≡ length digits + length end_words = length-append digits end_words in
    omega (arith, whole, begin, name, last, package_size, constant_size, end_size)

-- where the package of a file ends
pub package_index : (alone : Bool) (used digits : List ℕ) → lines_end (package_start alone (length used)) (length digits) ≡ length (lines_before alone used ++ own_lines digits)
package_index alone used digits =
    let whole : length (lines_before alone used ++ own_lines digits) ≡ length (lines_before alone used) + length (own_lines digits) = length-append (lines_before alone used) (own_lines digits) in
    omega (arith, whole, before_size alone used, lines_size digits)

before_few : (alone : Bool) (used : List ℕ) → length used ≤ 20 → package_start alone (length used) ≤ 48
before_few true used few = omega arith
before_few false used few = omega (arith, few)

noted_few : (noted : Bool) → length (if noted then note_line else []) ≤ 17
noted_few true = omega (arith, note_size)
noted_few false = omega arith

text_few : (alone : Bool) (used digits : List ℕ) (noted : Bool) → length used ≤ 20 → length digits ≤ 20 → length (file_text alone used digits noted) ≤ TEXT_LIMIT
text_few alone used digits noted few_used few_own =
    let whole : length (file_text alone used digits noted) ≡ length (lines_before alone used) + length (own_lines digits ++ (if noted then note_line else [])) = length-append (lines_before alone used) (own_lines digits ++ (if noted then note_line else [])) in
    let behind : length (own_lines digits ++ (if noted then note_line else [])) ≡ length (own_lines digits) + length (if noted then note_line else []) = length-append (own_lines digits) (if noted then note_line else []) in
    omega (arith, whole, behind, before_size alone used, lines_size digits, before_few alone used few_used, noted_few noted, few_own)

pub text_small : (number : ℕ) (noted : Bool) → number < 2 ^ 64 → length (package_text number noted) ≤ TEXT_LIMIT
text_small number noted small = text_few (is_alone number) (decimal (number / 2)) (decimal number) noted (digits_few (number / 2) (omega (arith, small))) (digits_few number small)

-- ## Names

library_is_short : length used_library ≡ 3
unfolding used_library
library_is_short = refl

folder_size : length source_folder ≡ 5
unfolding source_folder
folder_size = refl

ending_size : length source_end ≡ 4
unfolding source_end
ending_size = refl

-- a file of the library `lib` with a short path
pub name_fits : (path : List ℕ) → 1 ≤ length path → length path ≤ 1024 → FitsName (record { library = used_library; path = path })
name_fits path some few = record {
  library = record { at_least = omega (arith, library_is_short); at_most = omega (arith, library_is_short) };
  path = record { at_least = some; at_most = few };
}

pub package_name_fits : (number : ℕ) → number < 2 ^ 64 → FitsName (record { library = used_library; path = package_path number })
package_name_fits number small =
    let whole : length (package_path number) ≡ length source_folder + length (decimal number ++ source_end) = length-append source_folder (decimal number ++ source_end) in
    let name : length (decimal number ++ source_end) ≡ length (decimal number) + length source_end = length-append (decimal number) source_end in
    name_fits (package_path number) (omega (arith, whole, folder_size)) (omega (arith, whole, name, folder_size, ending_size, digits_few number small))

-- a file of a package that was built
pub package_file_fits : (number : ℕ) (file : BuiltFile) → number < 2 ^ 64 → file.name.path ≡ package_path number → IsPackageBuilt number file → IsBuiltFile file
package_file_fits number file small path is = record {
  name =
      subst (λ (name : FileName). FitsName name)
      (ap (λ (of_file : List ℕ). record { library = used_library; path = of_file }) (sym path) ∙ ap (λ (library : List ℕ). record { library = library; path = file.name.path }) (sym is.library))
      (package_name_fits number small);
  artefact =
      let same : length file.artefact ≡ length (package_artefact number is.noted) = ap (λ (bytes : List ℕ). length bytes) is.artefact in
      omega (arith, same, artefact_small number is.noted small);
}
