-- The texts of the generated files, which are read from their tree, and their scans.
use Rattle.std.proofs.Common.{◌≡◌, ◌≢◌, zero, suc, ℕ, ◌+◌, ◌*◌, ◌/◌, ◌^◌, ◌<◌, ◌≤◌, ◌⊎◌, ⊎_elim, inl, inr, Bool, true, false, List, [], ◌∷◌, ◌++◌, length, map, nat_eq, Some, Option, refl, sym, ap, subst, ◌∙◌, arith, length-append}
use Rattle.std.specs.Prelude.{◌==◌, nat_le, if◌then◌else◌, Ok}
use Rattle.std.specs.Cmp.Lexicographic.{pointwise}
use Rattle.std.specs.Fmt.{decimal}
use Rattle.std.specs.List.{AllByRecursion}
use Rattle.std.proofs.lemmas.Bool.{cases_Bool, cond-true, cond-false, false≢true, le-leb}
use Rattle.std.proofs.lemmas.Fmt.{decimal_injective, length-decimal-le}
use Rattle.std.proofs.lemmas.List.{append_cancel_left, append_cancel_right}
use Rattle.base.specs.declared.file.NamedText.{NamedText}
use Rattle.base.specs.declared.limits.TheConstants.{GRAPH_TEXT_LIMIT, TEXT_LIMIT}
use Rattle.base.specs.declared.project.ProjectFile.{ProjectFile}
use Rattle.base.specs.PresentGraph.{below}
use Rattle.memory_outside.specs.Trees.{file_at}
use Rattle.outside.specs.Trees.{read_end}
use Rattle.outside.specs.declared.tree.ReadEnd.TheVariants as read
use Rattle.vhdl_spec.specs.Scans.{Finding, IsScanner}
use Rattle.project_reading.specs.Reading.{and_others, before_others, scan_of, scans_of, text_of, texts_of}
use Rattle.generated_project.specs.Files.{all_words, bench_body, bench_file, bench_head, bench_path, constant_words, end_words, generated_files, library_words, note_line, package_file, package_path, package_text, package_words, packages, source_end, source_folder, toml_file, toml_path}
use Rattle.generated_sources.proofs.PackageParts.{file_text}
use Rattle.generated_sources.specs.PackageScans.{is_alone}
use Rattle.generated_sources.proofs.Linked.{numbered_found}
use Rattle.generated_sources.proofs.Members.{Has, contains_had, has_contained, has_mapped, map_had}
use Rattle.generated_sources.proofs.Naming.{bytes_same, same_bytes}
use Rattle.generated_sources.specs.NumberedFiles.{numbered_bytes, numbered_file, numbered_path, numbered_scan}
use Rattle.order.proofs.Finds.{below_bounded, in_below}

-- ## Files of a tree

-- the file of a path is found where each file of that path has the same bytes
found_file : (files : List NamedText) (file : NamedText) → Has files file → ((other : NamedText) → Has files other → other.path ≡ file.path → other.bytes ≡ file.bytes) → file_at files file.path ≡ Some file.bytes
found_file [] file has same = absurd has
found_file (first ∷ files) file has same =
    elim (cases_Bool (pointwise nat_eq first.path file.path)) [
      | inl t ↦
          cond-true (pointwise nat_eq first.path file.path) (Some first.bytes) (file_at files file.path) t
          ∙ ap (λ (bytes : List ℕ). Some bytes) (same first (inl refl) (bytes_same first.path file.path t))
      | inr f ↦
          cond-false (pointwise nat_eq first.path file.path) (Some first.bytes) (file_at files file.path) f
          ∙ found_file files file (later f) (λ other there. same other (inr there))
    ] where
      later : pointwise nat_eq first.path file.path ≡ false → Has files file
      later f =
          ⊎_elim
          (λ (is : first ≡ file). let t : pointwise nat_eq first.path file.path ≡ true = same_bytes first.path file.path (ap (λ (it : NamedText). it.path) is) in let no_way : ⊥ = cc in absurd no_way)
          (λ (there : Has files file). there)
          has

-- ## The generated files

toml_other : (number : ℕ) → toml_path ≡ package_path number → ⊥
unfolding toml_path source_folder
toml_other number is = false≢true (same_bytes toml_path (package_path number) is)

bench_other : (number : ℕ) → bench_path ≡ package_path number → ⊥
unfolding bench_path source_folder
bench_other number is = false≢true (same_bytes bench_path (package_path number) is)

toml_not_bench : toml_path ≡ bench_path → ⊥
unfolding bench_path toml_path
toml_not_bench is = false≢true (same_bytes toml_path bench_path is)

same_path : (a b : ℕ) → a < 2 ^ 64 → b < 2 ^ 64 → package_path a ≡ package_path b → a ≡ b
same_path a b small few is =
    decimal_injective a b small few
    (append_cancel_right (decimal a) (decimal b) source_end
    (append_cancel_left source_folder (decimal a ++ source_end) (decimal b ++ source_end) is))

module _ (count edited : ℕ) (small : count < 2 ^ 64) where
  abbrev files : List NamedText
  files = generated_files count edited

  -- a file is the project file, the bench or a package
  which : (file : NamedText) → Has files file → (toml_file ≡ file) ⊎ ((bench_file ≡ file) ⊎ ((before : ℕ) × (before < count) × (package_file edited (before + 1) ≡ file)))
  which file has =
      ⊎_elim
      (λ (is : toml_file ≡ file). inl is)
      (λ (later : Has (bench_file ∷ packages edited count) file). inr (⊎_elim
      (λ (is : bench_file ≡ file). inl is)
      (λ (there : Has (packages edited count) file). inr (let found = map_had (λ before. package_file edited (before + 1)) (below count) file there in (found.0, below_low found.0 found.1, found.2)))
      later))
      has where
        below_low : (before : ℕ) → Has (below count) before → before < count
        below_low before has = below_bounded count before (contains_had (below count) before has)

  bench_is : file_at files bench_path ≡ Some (bench_head ++ bench_body)
  bench_is = found_file files bench_file (inr (inl refl)) (λ other has same.
      elim (which other has) [
        | inl is ↦ absurd (toml_not_bench (ap (λ (it : NamedText). it.path) is ∙ same))
        | inr later ↦ elim later [
          | inl is ↦ ap (λ (it : NamedText). it.bytes) (sym is)
          | inr found ↦ absurd (bench_other (found.0 + 1) (sym same ∙ ap (λ (it : NamedText). it.path) (sym found.2)))
        ]
      ])

  package_is : (number : ℕ) → 1 ≤ number → number ≤ count → file_at files (package_path number) ≡ Some (package_text number (number == edited))
  package_is zero some low = absurd (omega (arith, some))
  package_is (suc before) some low =
      let plus : before + 1 ≡ suc before = omega arith in
      found_file files (package_file edited (suc before))
      (inr (inr (subst (λ (n : ℕ). Has (packages edited count) (package_file edited n)) plus (has_mapped (λ n. package_file edited (n + 1)) (below count) before (has_contained (below count) before (in_below count before (omega (arith, low))))))))
      (λ other has same.
      elim (which other has) [
        | inl is ↦ absurd (toml_other (suc before) (ap (λ (it : NamedText). it.path) is ∙ same))
        | inr later ↦ elim later [
          | inl is ↦ absurd (bench_other (suc before) (ap (λ (it : NamedText). it.path) is ∙ same))
          | inr found ↦
              let one : found.0 + 1 ≡ suc before = same_path (found.0 + 1) (suc before) (omega (arith, found.1, small)) (omega (arith, low, small)) (ap (λ (it : NamedText). it.path) found.2 ∙ same) in
              ap (λ (it : NamedText). it.bytes) (sym found.2) ∙ ap (λ (n : ℕ). package_text n (n == edited)) one
        ]
      ])

  pub bytes_at : (number : ℕ) → number ≤ count → file_at files (numbered_path number) ≡ Some (numbered_bytes edited number)
  bytes_at zero low = bench_is
  bytes_at (suc before) low = package_is (suc before) (omega arith) low

-- ## Their sizes

both_short : (xs ys : List ℕ) (a b : ℕ) → length xs ≤ a → length ys ≤ b → length (xs ++ ys) ≤ a + b
both_short xs ys a b first second = let sum : length (xs ++ ys) ≡ length xs + length ys = length-append xs ys in omega (arith, sum, first, second)

lines_short : (digits : List ℕ) → length digits ≤ 20 → length ((package_words ++ (digits ++ constant_words)) ++ (digits ++ end_words)) ≤ 150
unfolding package_words constant_words end_words
lines_short digits few =
    let sum : length ((package_words ++ (digits ++ constant_words)) ++ (digits ++ end_words)) ≤ (length package_words + (20 + length constant_words)) + (20 + length end_words) =
    both_short (package_words ++ (digits ++ constant_words)) (digits ++ end_words) (length package_words + (20 + length constant_words)) (20 + length end_words)
    (both_short package_words (digits ++ constant_words) (length package_words) (20 + length constant_words) (omega arith) (both_short digits constant_words 20 (length constant_words) few (omega arith)))
    (both_short digits end_words 20 (length end_words) few (omega arith)) in
    omega (arith, sum)

use_short : (alone : Bool) (digits : List ℕ) → length digits ≤ 20 → length (if alone then [] else library_words ++ (digits ++ all_words)) ≤ 60
unfolding library_words all_words
use_short true digits few = omega arith
use_short false digits few =
    let sum : length (library_words ++ (digits ++ all_words)) ≤ length library_words + (20 + length all_words) =
    both_short library_words (digits ++ all_words) (length library_words) (20 + length all_words) (omega arith) (both_short digits all_words 20 (length all_words) few (omega arith)) in
    omega (arith, sum)

note_short : (noted : Bool) → length (if noted then note_line else []) ≤ 20
unfolding note_line
note_short true = omega arith
note_short false = omega arith

text_short : (alone : Bool) (used digits : List ℕ) (noted : Bool) → length used ≤ 20 → length digits ≤ 20 → length (file_text alone used digits noted) ≤ 230
text_short alone used digits noted few less =
    both_short (if alone then [] else library_words ++ (used ++ all_words)) (((package_words ++ (digits ++ constant_words)) ++ (digits ++ end_words)) ++ (if noted then note_line else [])) 60 170 (use_short alone used few)
    (both_short ((package_words ++ (digits ++ constant_words)) ++ (digits ++ end_words)) (if noted then note_line else []) 150 20 (lines_short digits less) (note_short noted))

few_digits : (number : ℕ) → number < 2 ^ 64 → length (decimal number) ≤ 20
few_digits number small = length-decimal-le 20 number (omega arith) (omega (arith, small)) small

bench_short : length (bench_head ++ bench_body) ≤ 230
unfolding bench_head bench_body
bench_short = omega arith

bytes_short : (edited number : ℕ) → number < 2 ^ 64 → length (numbered_bytes edited number) ≤ 230
bytes_short edited zero small = bench_short
bytes_short edited (suc before) small = text_short (is_alone (suc before)) (decimal (suc before / 2)) (decimal (suc before)) (suc before == edited) (few_digits (suc before / 2) (omega (arith, small))) (few_digits (suc before) small)

-- ## All texts and scans

one_text : (file : ProjectFile) (before : ℕ) (found : Option (List ℕ)) (bytes : List ℕ) → found ≡ Some bytes → length bytes ≤ 230 → before + 230 ≤ GRAPH_TEXT_LIMIT → text_of file.name before (read_end found TEXT_LIMIT) ≡ Ok bytes
one_text file before found bytes is short room =
    ap (λ (one : Option (List ℕ)). text_of file.name before (read_end one TEXT_LIMIT)) is
    ∙ ap (text_of file.name before) (cond-true (nat_le (length bytes) TEXT_LIMIT) (read.Got bytes) read.TooLong (le-leb (length bytes) TEXT_LIMIT (omega (arith, short))))
    ∙ cond-true (nat_le (before + length bytes) GRAPH_TEXT_LIMIT) (Ok bytes) _ (le-leb (before + length bytes) GRAPH_TEXT_LIMIT (omega (arith, short, room)))

pub all_texts : (count edited : ℕ) (command : List (List ℕ)) → count < 2 ^ 64 → (before : ℕ) (numbers : List ℕ) → AllByRecursion (λ n. n ≤ count) numbers → before + 230 * length numbers ≤ GRAPH_TEXT_LIMIT →
    texts_of (file_at (generated_files count edited)) before (map (numbered_file command) numbers) ≡ Ok (map (numbered_bytes edited) numbers)
unfolding texts_of
all_texts count edited command small before [] low room = refl
all_texts count edited command small before (number ∷ numbers) low room =
    let short : length (numbered_bytes edited number) ≤ 230 = bytes_short edited number (omega (arith, low.0, small)) in
    ap (and_others (λ text. texts_of (file_at (generated_files count edited)) (before + length text) (map (numbered_file command) numbers)))
    (one_text (numbered_file command number) before (file_at (generated_files count edited) (numbered_path number)) (numbered_bytes edited number) (bytes_at count edited small number low.0) short (omega (arith, room)))
    ∙ ap (before_others (numbered_bytes edited number)) (all_texts count edited command small (before + length (numbered_bytes edited number)) numbers low.1 (omega (arith, room, short)))

pub all_scans : (scan : List ℕ → Finding) (edited : ℕ) (command : List (List ℕ)) → IsScanner scan → (numbers : List ℕ) → AllByRecursion (λ n. n < 2 ^ 64) numbers →
    scans_of scan (map (numbered_file command) numbers) (map (numbered_bytes edited) numbers) ≡ Ok (map (numbered_scan edited) numbers)
unfolding scans_of
all_scans scan edited command scans [] small = refl
all_scans scan edited command scans (number ∷ numbers) small =
    ap (λ (found : Finding). and_others (λ one. scans_of scan (map (numbered_file command) numbers) (map (numbered_bytes edited) numbers)) (scan_of (numbered_file command number).name found)) (numbered_found scan edited number scans small.0)
    ∙ ap (before_others (numbered_scan edited number)) (all_scans scan edited command scans numbers small.1)
