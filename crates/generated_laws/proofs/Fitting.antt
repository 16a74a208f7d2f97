-- The names of the files fit and are distinct, and the texts are short.
use Rattle.std.proofs.Common.{◌≡◌, ℕ, zero, suc, ◌*◌, ◌/◌, ◌^◌, ◌<◌, ◌≤◌, Bool, true, false, List, [], ◌∷◌, ◌++◌, length, map, get_or, refl, sym, ap, arith}
use Rattle.std.specs.Prelude.{◌==◌, All, sum_by, slice_index, if◌then◌else◌}
use Rattle.std.specs.Fmt.{decimal}
use Rattle.std.proofs.lemmas.Fmt.{decimal_injective, length-decimal-le}
use Rattle.std.proofs.lemmas.List.{append_cancel_left, append_cancel_right, length-append}
use Rattle.std.proofs.lemmas.List.Elements.{All-head, All-map, All-tail}
use Rattle.std.proofs.lemmas.List.Sums.{sum_by-cons}
use Rattle.base.specs.declared.limits.TheConstants.{FILE_LIMIT, PATH_LIMIT, TEXT_LIMIT}
use Rattle.base.specs.Names.{FitsName, IsBetween}
use Rattle.order.specs.LinkedGraph.{AreSmall}
use Rattle.generated_project.specs.Files.{all_words, bench_body, bench_head, bench_path, constant_words, end_words, note_line, noted_lines, library_words, package_begin, package_end, package_lines, package_text, package_words, source_end, source_folder, use_lines, used_lines}
use Rattle.generated_sources.specs.PackageLinks.{used_library}
use Rattle.generated_sources.specs.NumberedFiles.{numbered_path, numbered_bytes}
use Rattle.generated_laws.specs.NumberedGraphs.{numbered_name}

few_digits : (number : ℕ) → number < FILE_LIMIT → length (decimal number) ≤ 4
few_digits number low = length-decimal-le 4 number (omega arith) (omega (arith, low)) (omega (arith, low))

-- ## Names

library_length : length used_library ≡ 3
unfolding used_library
library_length = refl

bench_length : length bench_path ≡ 6
unfolding bench_path
bench_length = refl

folder_length : length source_folder ≡ 5
unfolding source_folder
folder_length = refl

end_length : length source_end ≡ 4
unfolding source_end
end_length = refl

path_fits : (number : ℕ) → number < FILE_LIMIT → IsBetween 1 PATH_LIMIT (length (numbered_path number))
path_fits zero low = record { at_least = omega (arith, bench_length); at_most = omega (arith, bench_length) }
path_fits (suc before) low =
    let digits = few_digits (suc before) low in
    let first = length-append source_folder (decimal (suc before) ++ source_end) in
    let second = length-append (decimal (suc before)) source_end in
    record { at_least = omega (arith, first, folder_length); at_most = omega (arith, first, second, digits, folder_length, end_length) }

pub name_fits : (number : ℕ) → number < FILE_LIMIT → FitsName (numbered_name number)
name_fits number low = record { library = record { at_least = omega (arith, library_length); at_most = omega (arith, library_length) }; path = path_fits number low }

-- no package has the path of the bench
bench_apart : (number : ℕ) → bench_path ≡ source_folder ++ (decimal number ++ source_end) → ⊥
unfolding bench_path source_folder
bench_apart number same = let heads : 116 ≡ 115 = ap (λ (bytes : List ℕ). slice_index bytes 0) same in absurd (omega (arith, heads))

pub same_path : (a b : ℕ) → a < 2 ^ 64 → b < 2 ^ 64 → numbered_path a ≡ numbered_path b → a ≡ b
same_path zero zero small few same = refl
same_path zero (suc b) small few same = absurd (bench_apart (suc b) same)
same_path (suc a) zero small few same = absurd (bench_apart (suc a) (sym same))
same_path (suc a) (suc b) small few same =
    decimal_injective (suc a) (suc b) small few
    (append_cancel_right (decimal (suc a)) (decimal (suc b)) source_end (append_cancel_left source_folder (decimal (suc a) ++ source_end) (decimal (suc b) ++ source_end) same))

-- ## Texts

head_length : length bench_head ≡ 78
unfolding bench_head
head_length = refl

body_length : length bench_body ≡ 73
unfolding bench_body
body_length = refl

library_words_length : length library_words ≡ 22
unfolding library_words
library_words_length = refl

all_words_length : length all_words ≡ 6
unfolding all_words
all_words_length = refl

package_words_length : length package_words ≡ 9
unfolding package_words
package_words_length = refl

constant_words_length : length constant_words ≡ 46
unfolding constant_words
constant_words_length = refl

end_words_length : length end_words ≡ 2
unfolding end_words
end_words_length = refl

note_length : length note_line ≡ 17
unfolding note_line
note_length = refl

use_short : (number : ℕ) → number < FILE_LIMIT → length (use_lines number) ≤ 32
use_short number low = omega (arith, few_digits number low, length-append library_words (decimal number ++ all_words), length-append (decimal number) all_words, library_words_length, all_words_length)

used_short : (alone : Bool) (number : ℕ) → number < FILE_LIMIT → length (if alone then [] else use_lines number) ≤ 32
used_short true number low = omega arith
used_short false number low = use_short number low

begin_short : (number : ℕ) → number < FILE_LIMIT → length (package_begin number) ≤ 59
begin_short number low = omega (arith, few_digits number low, length-append package_words (decimal number ++ constant_words), length-append (decimal number) constant_words, package_words_length, constant_words_length)

end_short : (number : ℕ) → number < FILE_LIMIT → length (package_end number) ≤ 6
end_short number low = omega (arith, few_digits number low, length-append (decimal number) end_words, end_words_length)

noted_short : (noted : Bool) → length (noted_lines noted) ≤ 17
noted_short true = omega (arith, note_length)
noted_short false = omega arith

package_short : (number : ℕ) (noted : Bool) → number < FILE_LIMIT → length (package_text number noted) ≤ 200
package_short number noted low =
    omega (arith, used_short (number == 1) (number / 2) (omega (arith, low)), begin_short number low, end_short number low, noted_short noted, length-append (used_lines number) (package_lines number ++ noted_lines noted), length-append (package_lines number) (noted_lines noted), length-append (package_begin number) (package_end number))

pub text_short : (edited number : ℕ) → number < FILE_LIMIT → length (numbered_bytes edited number) ≤ 200
text_short edited zero low = omega (arith, length-append bench_head bench_body, head_length, body_length)
text_short edited (suc before) low = package_short (suc before) (suc before == edited) low

module _ (edited : ℕ) where
  all_bytes : (numbers : List ℕ) → All (λ number. number < FILE_LIMIT) numbers → sum_by (λ (text : List ℕ). length text) (map (numbered_bytes edited) numbers) ≤ 200 * length numbers
  all_bytes [] low = omega arith
  all_bytes (number ∷ numbers) low =
      omega (arith, sum_by-cons (λ (text : List ℕ). length text) (numbered_bytes edited number) (map (numbered_bytes edited) numbers), text_short edited number (All-head (λ number. number < FILE_LIMIT) number numbers low), all_bytes numbers (All-tail (λ number. number < FILE_LIMIT) number numbers low))

  pub texts_small : (numbers : List ℕ) → All (λ number. number < FILE_LIMIT) numbers → length numbers ≤ FILE_LIMIT → AreSmall (map (numbered_bytes edited) numbers)
  texts_small numbers low few = record {
    short = All-map (λ (text : List ℕ). length text ≤ TEXT_LIMIT) (numbered_bytes edited) numbers (λ k d lt. omega (arith, text_short edited (get_or numbers k d) (low k d lt)));
    few_bytes = omega (arith, all_bytes numbers low, few);
  }
