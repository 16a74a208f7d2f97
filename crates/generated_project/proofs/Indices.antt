-- The file of a package is the first of its path.
use Rattle.std.proofs.Common.{◌≡◌, zero, suc, ℕ, ◌+◌, ◌^◌, ◌<◌, ◌≤◌, true, false, List, [], ◌∷◌, ◌++◌, nat_eq, Some, None, refl, sym, ap, subst, ◌∙◌, inl, inr, arith}
use Rattle.std.specs.Prelude.{◌==◌}
use Rattle.std.specs.Fmt.{decimal}
use Rattle.std.specs.Cmp.Lexicographic.{pointwise, other_text, same_text}
use Rattle.std.proofs.lemmas.Bool.{cases_Bool, cond-true, cond-false, cases_order}
use Rattle.std.proofs.lemmas.Fmt.{decimal_injective}
use Rattle.std.proofs.lemmas.List.{append_cancel_left, append_cancel_right}
use Rattle.base.specs.declared.file.NamedText.{NamedText}
use Rattle.memory_outside.specs.Trees.{file_at}
use Rattle.generated_project.specs.Files.{toml_path, toml_file, bench_path, bench_file, source_folder, source_end, package_path, package_text, package_file, packages, generated_files}
use Rattle.generated_project.proofs.Packages.{packages-none, packages-more}

same_test : (x y : List ℕ) → x ≡ y → pointwise nat_eq x y ≡ true
same_test x y is =
    elim (cases_Bool (pointwise nat_eq x y)) [
      | inl t ↦ t
      | inr f ↦ absurd (other_text x y (sym f) is)
    ]

-- what is found among the first files, or else among the others
first_found : (xs ys : List NamedText) (path bytes : List ℕ) → file_at xs path ≡ Some bytes → file_at (xs ++ ys) path ≡ Some bytes
first_found [] ys path bytes is = absurd (nothing is) where
  nothing : None ≡ Some bytes → ⊥
  nothing e = cc
first_found (file ∷ xs) ys path bytes is =
    elim (cases_Bool (pointwise nat_eq file.path path)) [
      | inl t ↦ cond-true (pointwise nat_eq file.path path) (Some file.bytes) (file_at (xs ++ ys) path) t ∙ sym (cond-true (pointwise nat_eq file.path path) (Some file.bytes) (file_at xs path) t) ∙ is
      | inr f ↦ cond-false (pointwise nat_eq file.path path) (Some file.bytes) (file_at (xs ++ ys) path) f ∙ first_found xs ys path bytes (sym (cond-false (pointwise nat_eq file.path path) (Some file.bytes) (file_at xs path) f) ∙ is)
    ]

then_found : (xs ys : List NamedText) (path : List ℕ) → file_at xs path ≡ None → file_at (xs ++ ys) path ≡ file_at ys path
then_found [] ys path none = refl
then_found (file ∷ xs) ys path none =
    elim (cases_Bool (pointwise nat_eq file.path path)) [
      | inl t ↦ absurd (nothing (sym none ∙ cond-true (pointwise nat_eq file.path path) (Some file.bytes) (file_at xs path) t))
      | inr f ↦ cond-false (pointwise nat_eq file.path path) (Some file.bytes) (file_at (xs ++ ys) path) f ∙ then_found xs ys path (sym (cond-false (pointwise nat_eq file.path path) (Some file.bytes) (file_at xs path) f) ∙ none)
    ] where
      nothing : None ≡ Some file.bytes → ⊥
      nothing e = cc

-- each package has a path of its own
same_number : (a b : ℕ) → a < 2 ^ 64 → b < 2 ^ 64 → package_path a ≡ package_path b → a ≡ b
same_number a b small few is =
    decimal_injective a b small few (append_cancel_right (decimal a) (decimal b) source_end (append_cancel_left source_folder (decimal a ++ source_end) (decimal b ++ source_end) is))

other_test : (a b : ℕ) → a < 2 ^ 64 → b < 2 ^ 64 → a < b → pointwise nat_eq (package_path a) (package_path b) ≡ false
other_test a b small few less =
    elim (cases_Bool (pointwise nat_eq (package_path a) (package_path b))) [
      | inl t ↦ let same : a ≡ b = same_number a b small few (both (package_path a) (package_path b) t) in absurd (omega (arith, same, less))
      | inr f ↦ f
    ] where
      both : (x y : List ℕ) → pointwise nat_eq x y ≡ true → x ≡ y
      both x y t = same_text x y (sym t)

-- it isn't that of an earlier one
none_before : (edited number count : ℕ) → number < 2 ^ 64 → count < number → file_at (packages edited count) (package_path number) ≡ None
none_before edited number zero small less = ap (λ (files : List NamedText). file_at files (package_path number)) (packages-none edited)
none_before edited number (suc count) small less =
    let plus : suc count ≡ count + 1 = omega arith in
    subst (λ (n : ℕ). file_at (packages edited n) (package_path number) ≡ None) (sym plus)
    (ap (λ (files : List NamedText). file_at files (package_path number)) (packages-more edited count)
    ∙ then_found (packages edited count) (package_file edited (count + 1) ∷ []) (package_path number) (none_before edited number count small (omega (arith, less)))
    ∙ cond-false (pointwise nat_eq (package_path (count + 1)) (package_path number)) (Some (package_file edited (count + 1)).bytes) None (other_test (count + 1) number (omega (arith, less, small)) small (omega (arith, less))))

-- and its own file is found
found_among : (edited number count : ℕ) → number < 2 ^ 64 → 1 ≤ number → number ≤ count → file_at (packages edited count) (package_path number) ≡ Some (package_text number (number == edited))
found_among edited number zero small some within = absurd (omega (arith, some, within))
found_among edited number (suc count) small some within =
    let plus : suc count ≡ count + 1 = omega arith in
    subst (λ (n : ℕ). file_at (packages edited n) (package_path number) ≡ Some (package_text number (number == edited))) (sym plus)
    (ap (λ (files : List NamedText). file_at files (package_path number)) (packages-more edited count)
    ∙ elim (cases_order number (count + 1)) [
      | inl last ↦ then_found (packages edited count) (package_file edited (count + 1) ∷ []) (package_path number) (none_before edited number count small (omega (arith, last)))
          ∙ cond-true (pointwise nat_eq (package_path (count + 1)) (package_path number)) (Some (package_text (count + 1) ((count + 1) == edited))) None (same_test (package_path (count + 1)) (package_path number) (ap package_path (sym last)))
          ∙ ap (λ (n : ℕ). Some (package_text n (n == edited))) (sym last)
      | inr other ↦ elim other [
        | inl earlier ↦ first_found (packages edited count) (package_file edited (count + 1) ∷ []) (package_path number) (package_text number (number == edited)) (found_among edited number count small some (omega (arith, earlier)))
        | inr later ↦ absurd (omega (arith, later, within))
      ]
    ])

-- it is neither the project file nor the bench
not_toml : (rest : List ℕ) → pointwise nat_eq toml_path (source_folder ++ rest) ≡ false
unfolding toml_path source_folder
not_toml rest = refl

not_bench : (rest : List ℕ) → pointwise nat_eq bench_path (source_folder ++ rest) ≡ false
unfolding bench_path source_folder
not_bench rest = refl

pub package_found : (count edited number : ℕ) (path : List ℕ) → number < 2 ^ 64 → 1 ≤ number → number ≤ count → package_path number ≡ path → file_at (generated_files count edited) path ≡ Some (package_text number (number == edited))
package_found count edited number path small some within is =
    subst (λ (p : List ℕ). file_at (generated_files count edited) p ≡ Some (package_text number (number == edited))) is
    (cond-false (pointwise nat_eq toml_path (package_path number)) (Some toml_file.bytes) (file_at (bench_file ∷ packages edited count) (package_path number)) (not_toml (decimal number ++ source_end))
    ∙ cond-false (pointwise nat_eq bench_path (package_path number)) (Some bench_file.bytes) (file_at (packages edited count) (package_path number)) (not_bench (decimal number ++ source_end))
    ∙ found_among edited number count small some within)
