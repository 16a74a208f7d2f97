-- The paths of the generated project are texts, and none is empty.
use Rattle.std.proofs.Common.{◌≡◌, zero, suc, ℕ, ◌+◌, ◌^◌, ◌<◌, ◌≤◌, Bool, true, false, ◌&&◌, List, [], ◌∷◌, ◌++◌, length, refl, subst, sym, arith}
use Rattle.std.specs.Prelude.{All}
use Rattle.std.specs.Fmt.{decimal}
use Rattle.std.specs.Str.{IsUtf8}
use Rattle.std.proofs.lemmas.Fmt.{IsAscii-decimal}
use Rattle.std.proofs.lemmas.Str.{IsUtf8-append, IsUtf8-from_ascii}
use Rattle.std.proofs.lemmas.Str.Ascii.{IsAscii-from_all}
use Rattle.std.proofs.lemmas.Bool.{ltb-true, false≢true}
use Rattle.std.proofs.Math.Dec.{ltb}
use Rattle.std.specs.List.{list_all}
use Rattle.std.proofs.lemmas.List.{length-append}
use Rattle.std.proofs.lemmas.List.Elements.{All-nil, All-cons, All-push, recursion_from_All}
use Rattle.base.specs.declared.file.NamedText.{NamedText}
use Rattle.memory_outside.specs.Trees.{IsPath, HavePaths}
use Rattle.generated_project.specs.Files.{toml_path, bench_path, source_folder, source_end, package_path, package_file, packages, generated_files}
use Rattle.generated_project.proofs.Packages.{packages-none, packages-more}

abbrev HasPath : NamedText → Type 0
HasPath file = IsPath file.path

-- bytes below 128 are a text
abbrev are_low : List ℕ → Bool
are_low bytes = list_all (λ byte. ltb byte 128) bytes

both_of : (x y : Bool) → (x && y) ≡ true → (x ≡ true) × (y ≡ true)
both_of true y h = (refl, h)
both_of false y h = absurd (false≢true h)

low_all : (bytes : List ℕ) → are_low bytes ≡ true → All (λ byte. byte < 128) bytes
low_all [] low = All-nil (λ byte. byte < 128)
low_all (byte ∷ bytes) low =
    let both = both_of (ltb byte 128) (are_low bytes) low in
    All-cons (λ b. b < 128) byte bytes (ltb-true byte 128 both.0) (low_all bytes both.1)

low_utf8 : (bytes : List ℕ) → are_low bytes ≡ true → IsUtf8 bytes
low_utf8 bytes low = IsUtf8-from_ascii bytes (IsAscii-from_all bytes (low_all bytes low))

toml_is : IsPath toml_path
unfolding toml_path
toml_is = record { some = omega arith; text = low_utf8 toml_path refl }

bench_is : IsPath bench_path
unfolding bench_path
bench_is = record { some = omega arith; text = low_utf8 bench_path refl }

folder_is : IsUtf8 source_folder
unfolding source_folder
folder_is = low_utf8 source_folder refl

folder_some : 1 ≤ length source_folder
unfolding source_folder
folder_some = omega arith

end_is : IsUtf8 source_end
unfolding source_end
end_is = low_utf8 source_end refl

longer : (xs ys : List ℕ) → 1 ≤ length xs → 1 ≤ length (xs ++ ys)
longer xs ys some = let sum = length-append xs ys in omega (arith, sum, some)

package_is : (number : ℕ) → number < 2 ^ 64 → IsPath (package_path number)
package_is number small = record {
  some = longer source_folder (decimal number ++ source_end) folder_some;
  text = IsUtf8-append source_folder (decimal number ++ source_end) folder_is (IsUtf8-append (decimal number) source_end (IsUtf8-from_ascii (decimal number) (IsAscii-decimal number small)) end_is);
}

packages_have : (edited count : ℕ) → count < 2 ^ 64 → All HasPath (packages edited count)
packages_have edited zero small = subst (All HasPath) (sym (packages-none edited)) (All-nil HasPath)
packages_have edited (suc count) small =
    let number : suc count ≡ count + 1 = omega arith in
    subst (λ (n : ℕ). All HasPath (packages edited n)) (sym number)
    (subst (All HasPath) (sym (packages-more edited count))
    (All-push HasPath (packages edited count) (package_file edited (count + 1)) (packages_have edited count (omega (arith, small))) (package_is (count + 1) (omega (arith, small)))))

pub generated_have : (count edited : ℕ) → count < 2 ^ 64 → HavePaths (generated_files count edited)
generated_have count edited small = (toml_is, (bench_is, recursion_from_All HasPath (packages edited count) (packages_have edited count small)))
