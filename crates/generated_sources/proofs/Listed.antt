-- The listing of the generated project: its packages in the order of their paths, the bench and the project file.
use Rattle.std.proofs.Common.{◌≡◌, zero, suc, ℕ, ◌+◌, ◌^◌, ◌<◌, ◌≤◌, ⊎_elim, inl, inr, Bool, true, false, not, ◌&&◌, List, [], ◌∷◌, ◌++◌, length, map, refl, sym, ap, subst, ◌∙◌, arith, length-append}
use Rattle.std.specs.Prelude.{◌==◌, codes, filter, nat_le, slice_index_or}
use Rattle.std.specs.BTreeSet.{insert_key}
use Rattle.std.specs.Char.{is_ascii_digit}
use Rattle.std.specs.Cmp.Lexicographic.{slice_cmp}
use Rattle.std.specs.Fmt.{decimal}
use Rattle.std.specs.List.{AllByRecursion, list_all, onto_first, slice_split, starts_with}
use Rattle.std.proofs.lemmas.List.Splits.{slice_split-cons_no}
use Rattle.std.specs.Ordering.{nat_cmp}
use Rattle.std.proofs.lemmas.Bool.{cond-true, le-leb}
use Rattle.std.proofs.lemmas.Bool.Decides.{nat_tests}
use Rattle.std.proofs.lemmas.Fmt.{length-decimal-le}
use Rattle.base.specs.declared.limits.TheConstants.{PATH_LIMIT}
use Rattle.outside.specs.Trees.{is_listed, is_shown}
use Rattle.memory_outside.specs.Trees.{listed_of, rising_paths}
use Rattle.generated_project.specs.Files.{bench_path, generated_files, package_file, package_path, source_end, source_folder, toml_path}
use Rattle.generated_sources.proofs.ByteTests.{both_of}
use Rattle.generated_sources.proofs.Digits.{decimal_digits}
use Rattle.generated_sources.proofs.Members.{AreApart, Has, all_apart, contains_had, has_contained, has_mapped, map_had}
use Rattle.order.proofs.Finds.{below_bounded, in_below}
use Rattle.base.specs.PresentGraph.{below}
use Rattle.base.proofs.Below.{get_or-below, length-below}
use Rattle.std.proofs.lemmas.List.{get_or-map, length-map}
use Rattle.std.proofs.lemmas.List.Elements.{recursion_from_All}
use Rattle.vhdl_spec.proofs.SomeTests.{and_both}
use Rattle.generated_sources.specs.ListedNumbers.{numbers_to, sorted_numbers}
use Rattle.generated_sources.proofs.Sorted.{sorted_paths}

-- ## The parts of a path

abbrev is_slash : ℕ → Bool
is_slash byte = byte == 47

no_slash : (byte : ℕ) → is_ascii_digit byte ≡ true → is_slash byte ≡ false
no_slash byte is = grind (arith, nat_tests)

-- digits, and then the end of a path
abbrev tail_of : List ℕ → List ℕ
tail_of digits = digits ++ source_end

tail_parts : (digits : List ℕ) → list_all is_ascii_digit digits ≡ true → slice_split is_slash (tail_of digits) ≡ tail_of digits ∷ []
unfolding source_end
tail_parts [] all = refl
tail_parts (byte ∷ digits) all =
    let both = both_of (is_ascii_digit byte) (list_all is_ascii_digit digits) all in
    slice_split-cons_no is_slash byte (tail_of digits) (no_slash byte both.0) ∙ ap (λ (parts : List (List ℕ)). onto_first byte parts) (tail_parts digits both.1)

-- the parts of the path of a package
pub package_parts : (number : ℕ) → number < 2 ^ 64 → slice_split is_slash (package_path number) ≡ codes "src" ∷ (102 ∷ decimal number ++ source_end) ∷ []
unfolding source_folder
package_parts number small =
    ap (λ (parts : List (List ℕ)). onto_first 115 (onto_first 114 (onto_first 99 ([] ∷ onto_first 102 parts)))) (tail_parts (decimal number) (decimal_digits number small).all)

-- ## Each file is listed

toml_listed : is_listed toml_path ≡ true
unfolding toml_path
toml_listed = refl

bench_listed : is_listed bench_path ≡ true
unfolding bench_path
bench_listed = refl

short_path : (number : ℕ) → number < 2 ^ 64 → length (package_path number) ≤ PATH_LIMIT
unfolding source_folder source_end
short_path number small =
    let digits : length (decimal number) ≤ 20 = length-decimal-le 20 number (omega arith) (omega (arith, small)) small in
    let sum : length (decimal number ++ codes ".vhd") ≡ length (decimal number) + length (codes ".vhd") = length-append (decimal number) (codes ".vhd") in
    omega (arith, digits, sum)

elsewhere : (number : ℕ) → not (starts_with (λ a b. a == b) (package_path number) (codes "vunit_out/")) ≡ true
unfolding source_folder
elsewhere number = refl

shown : (number : ℕ) → number < 2 ^ 64 → list_all is_shown (slice_split is_slash (package_path number)) ≡ true
shown number small = ap (list_all is_shown) (package_parts number small) ∙ refl

package_listed : (number : ℕ) → number < 2 ^ 64 → is_listed (package_path number) ≡ true
package_listed number small =
    and_both (nat_le (length (package_path number)) PATH_LIMIT && not (starts_with (λ a b. a == b) (package_path number) (codes "vunit_out/"))) (list_all is_shown (slice_split is_slash (package_path number)))
    (and_both (nat_le (length (package_path number)) PATH_LIMIT) (not (starts_with (λ a b. a == b) (package_path number) (codes "vunit_out/"))) (le-leb (length (package_path number)) PATH_LIMIT (short_path number small)) (elsewhere number))
    (shown number small)

all_pass : {X : Type 0} (p : X → Bool) (xs : List X) → ((x : X) → Has xs x → p x ≡ true) → filter p xs ≡ xs
all_pass p [] passes = refl
all_pass {X} p (x ∷ xs) passes = cond-true (p x) (x ∷ filter p xs) (filter p xs) (passes x (inl refl)) ∙ ap (λ (rest : List X). x ∷ rest) (all_pass p xs (λ (y : X) (has : Has xs y). passes y (inr has)))

-- ## Numbers from 1 on

pub number_within : (count number : ℕ) → Has (numbers_to count) number → (1 ≤ number) × (number ≤ count)
number_within count number has =
    let found = map_had (λ before. before + 1) (below count) number has in
    let low : found.0 < count = below_bounded count found.0 (contains_had (below count) found.0 found.1) in
    (omega (arith, found.2), omega (arith, low, found.2))

pub has_number : (count number : ℕ) → 1 ≤ number → number ≤ count → Has (numbers_to count) number
has_number count zero some low = absurd (omega (arith, some))
has_number count (suc before) some low =
    let plus : before + 1 ≡ suc before = omega arith in
    subst (Has (numbers_to count)) plus (has_mapped (λ n. n + 1) (below count) before (has_contained (below count) before (in_below count before (omega (arith, low)))))

number_at : (count i d : ℕ) → i < count → slice_index_or (numbers_to count) i d ≡ i + 1
number_at count i d within =
    let low : i < length (below count) = omega (arith, within, length-below count) in
    get_or-map (λ before. before + 1) (below count) i 0 d low ∙ ap (λ (n : ℕ). n + 1) (get_or-below count i 0 within)

pub count_of : (count : ℕ) → length (numbers_to count) ≡ count
count_of count = length-map (below count) (λ before. before + 1) ∙ length-below count

pub numbers_apart : (count : ℕ) → AreApart (numbers_to count)
numbers_apart count = all_apart (numbers_to count) (λ i j d less within same.
    let low : j < count = omega (arith, within, count_of count) in
    let first = number_at count i d (omega (arith, less, low)) in
    let second = number_at count j d low in
    omega (arith, first, second, same, less))

pub numbers_small : (count : ℕ) → count < 2 ^ 64 → AllByRecursion (λ n. n < 2 ^ 64) (numbers_to count)
numbers_small count small = recursion_from_All (λ n. n < 2 ^ 64) (numbers_to count) (λ i d within.
    let low : i < count = omega (arith, within, count_of count) in
    let is = number_at count i d low in
    omega (arith, is, low, small))

-- ## The listing

paths_map : (edited : ℕ) (befores : List ℕ) → map (λ file. file.path) (map (λ before. package_file edited (before + 1)) befores) ≡ map package_path (map (λ before. before + 1) befores)
paths_map edited [] = refl
paths_map edited (before ∷ befores) = ap (λ (paths : List (List ℕ)). package_path (before + 1) ∷ paths) (paths_map edited befores)

bench_last : (numbers : List ℕ) → insert_key (slice_cmp nat_cmp) (map package_path numbers) bench_path ≡ map package_path numbers ++ bench_path ∷ []
unfolding bench_path source_folder
bench_last [] = refl
bench_last (number ∷ numbers) = ap (λ (paths : List (List ℕ)). package_path number ∷ paths) (bench_last numbers)

toml_last : (numbers : List ℕ) → insert_key (slice_cmp nat_cmp) (map package_path numbers ++ bench_path ∷ []) toml_path ≡ map package_path numbers ++ bench_path ∷ toml_path ∷ []
unfolding bench_path toml_path source_folder
toml_last [] = refl
toml_last (number ∷ numbers) = ap (λ (paths : List (List ℕ)). package_path number ∷ paths) (toml_last numbers)

each_listed : (count : ℕ) → count < 2 ^ 64 → (path : List ℕ) → Has (toml_path ∷ bench_path ∷ map package_path (numbers_to count)) path → is_listed path ≡ true
each_listed count small path has =
    ⊎_elim
    (λ (is : toml_path ≡ path). ap is_listed (sym is) ∙ toml_listed)
    (λ (later : Has (bench_path ∷ map package_path (numbers_to count)) path).
    ⊎_elim
    (λ (is : bench_path ≡ path). ap is_listed (sym is) ∙ bench_listed)
    (λ (there : Has (map package_path (numbers_to count)) path).
    let found = map_had package_path (numbers_to count) path there in
    let low = number_within count found.0 found.1 in
    ap is_listed (sym found.2) ∙ package_listed found.0 (omega (arith, low.1, small)))
    later)
    has

pub listing : (count edited : ℕ) → count < 2 ^ 64 → listed_of (generated_files count edited) ≡ map package_path (sorted_numbers (numbers_to count)) ++ bench_path ∷ toml_path ∷ []
listing count edited small =
    ap (λ (paths : List (List ℕ)). rising_paths (filter is_listed (toml_path ∷ bench_path ∷ paths))) (paths_map edited (below count))
    ∙ ap rising_paths (all_pass is_listed (toml_path ∷ bench_path ∷ map package_path (numbers_to count)) (each_listed count small))
    ∙ ap (λ (paths : List (List ℕ)). insert_key (slice_cmp nat_cmp) (insert_key (slice_cmp nat_cmp) paths bench_path) toml_path) (sym (sorted_paths (numbers_to count)))
    ∙ ap (λ (paths : List (List ℕ)). insert_key (slice_cmp nat_cmp) paths toml_path) (bench_last (sorted_numbers (numbers_to count)))
    ∙ toml_last (sorted_numbers (numbers_to count))
