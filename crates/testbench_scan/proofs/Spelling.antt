-- A full name is one where what it begins with and the name of its case are.
use Rattle.std.proofs.Common.{◌≡◌, ℕ, zero, suc, ◌+◌, ◌-◌, ◌<◌, Bool, true, false, not, ◌&&◌, ◌||◌, List, [], ◌∷◌, ◌++◌, codes, length, length-append, get_or, take, drop, refl, sym, ◌∙◌, ap, subst, append_assoc, arith}
use Rattle.std.specs.Prelude.{◌==◌, slice_index}
use Rattle.std.specs.List.{list_any}
use Rattle.std.specs.Str.{IsUtf8, is_utf8}
use Rattle.std.proofs.lemmas.List.{length_push}
use Rattle.std.proofs.lemmas.List.Folds.{list_any-append}
use Rattle.std.proofs.lemmas.Str.{IsCharBoundary-after_ascii, IsCharBoundary-before_ascii, IsCharBoundary-start, IsUtf8-append, IsUtf8-between, IsUtf8-drop, IsUtf8-from_ascii, IsUtf8-from_is_utf8, is_utf8-from_IsUtf8}
use Rattle.std.proofs.Math.Seq.{drop-append_seam, get_or-append_seam, take-append_seam}
use Rattle.base_outcomes.specs.declared.bench.Bench.{Bench}
use Rattle.base_outcomes.specs.declared.bench.TestCase.{TestCase}
use Rattle.testbench_select.specs.Selection.{full_name}
use Rattle.vhdl_spec.proofs.SomeTests.{and_cases}
use Rattle.testbench_scan.specs.Benches.{bench_name, is_bad_case, is_control, is_good_name}

both_ways : (a b : Bool) → (a ≡ true → b ≡ true) → (b ≡ true → a ≡ true) → a ≡ b
both_ways true b on back = sym (on refl)
both_ways false true on back = back refl
both_ways false false on back = refl

abbrev dot : ℕ
dot = 46

module _ (start name : List ℕ) where
  abbrev whole : List ℕ
  whole = start ++ dot ∷ name

  within : length start < length whole
  within = let long = length-append start (dot ∷ name) in omega (arith, long)

  here : get_or whole (length start) 0 < 128
  here = let is : get_or whole (length start) 0 ≡ dot = get_or-append_seam start dot name 0 in omega (arith, is)

  -- what comes before a dot
  start_utf8 : IsUtf8 whole → IsUtf8 start
  start_utf8 is =
      let cut = IsUtf8-between whole 0 (length start) is (omega arith) (IsCharBoundary-start whole is) (IsCharBoundary-before_ascii whole (length start) within here) in
      let same : take (length start - 0) (drop 0 whole) ≡ start = ap (λ (n : ℕ). take n whole) (omega arith) ∙ take-append_seam start (dot ∷ name) in
      subst IsUtf8 same cut

  -- what comes after it
  name_utf8 : IsUtf8 whole → IsUtf8 name
  name_utf8 is =
      let cut = IsUtf8-drop whole (length start + 1) is (IsCharBoundary-after_ascii whole (length start) is within here) in
      let same : drop (length start + 1) whole ≡ name = ap (λ (n : ℕ). drop n whole) (sym (length_push start dot)) ∙ ap (drop (length (start ++ dot ∷ []))) (sym (append_assoc start (dot ∷ []) name)) ∙ drop-append_seam (start ++ dot ∷ []) name in
      subst IsUtf8 same cut

  ascii : (i : ℕ) → slice_index (dot ∷ []) i < 128
  ascii zero = let is : slice_index (dot ∷ []) 0 ≡ 46 = refl in omega (arith, is)
  ascii (suc i) = let is : slice_index (dot ∷ []) (suc i) ≡ 0 = refl in omega (arith, is)

  dot_utf8 : IsUtf8 (dot ∷ [])
  dot_utf8 = IsUtf8-from_ascii (dot ∷ []) ascii

  utf8_parts : is_utf8 whole ≡ (is_utf8 start && is_utf8 name)
  utf8_parts = both_ways (is_utf8 whole) (is_utf8 start && is_utf8 name)
      (λ told. let is = IsUtf8-from_is_utf8 whole told in rw (is_utf8-from_IsUtf8 start (start_utf8 is), is_utf8-from_IsUtf8 name (name_utf8 is)) refl)
      (λ told. let both = and_cases (is_utf8 start) (is_utf8 name) told in is_utf8-from_IsUtf8 whole (IsUtf8-append start (dot ∷ name) (IsUtf8-from_is_utf8 start both.0) (IsUtf8-append (dot ∷ []) name dot_utf8 (IsUtf8-from_is_utf8 name both.1))))

  control_parts : list_any is_control whole ≡ (list_any is_control start || list_any is_control name)
  control_parts = list_any-append is_control start (dot ∷ name)

  four : (u v k l : Bool) → ((u && v) && not (k || l)) ≡ ((u && not k) && (v && not l))
  four true true true l = refl
  four true true false l = refl
  four true false true l = refl
  four true false false true = refl
  four true false false false = refl
  four false v k l = refl

  good_parts : is_good_name whole ≡ (is_good_name start && is_good_name name)
  good_parts =
      ap (λ (b : Bool). b && not (list_any is_control whole)) utf8_parts
      ∙ ap (λ (b : Bool). (is_utf8 start && is_utf8 name) && not b) control_parts
      ∙ four (is_utf8 start) (is_utf8 name) (list_any is_control start) (list_any is_control name)

spelled : (bench : Bench) (test_case : TestCase) → full_name bench test_case ≡ bench_name bench.library bench.name ++ dot ∷ test_case.name
spelled bench test_case =
    sym (append_assoc bench.library (codes "." ++ bench.name) (dot ∷ test_case.name)
    ∙ ap (λ (rest : List ℕ). bench.library ++ rest) (append_assoc (codes ".") bench.name (dot ∷ test_case.name)))

pub bad_parts : (bench : Bench) (test_case : TestCase) → is_bad_case bench test_case ≡ (length test_case.name == 0 || not (is_good_name (bench_name bench.library bench.name) && is_good_name test_case.name))
bad_parts bench test_case =
    ap (λ (b : Bool). length test_case.name == 0 || not b) (ap is_good_name (spelled bench test_case) ∙ good_parts (bench_name bench.library bench.name) test_case.name)

or_true : (b : Bool) → (b || true) ≡ true
or_true true = refl
or_true false = refl

-- no name is one after a bad start
pub bad_start : (bench : Bench) (test_case : TestCase) → is_good_name (bench_name bench.library bench.name) ≡ false → true ≡ is_bad_case bench test_case
bad_start bench test_case told = sym (bad_parts bench test_case ∙ ap (λ (b : Bool). length test_case.name == 0 || not (b && is_good_name test_case.name)) told ∙ or_true (length test_case.name == 0))

-- after a good one it is the name of the case that counts
pub bad_end : (bench : Bench) (test_case : TestCase) → (length test_case.name == 0) ≡ false → is_good_name (bench_name bench.library bench.name) ≡ true → not (is_good_name test_case.name) ≡ is_bad_case bench test_case
bad_end bench test_case some told = sym (bad_parts bench test_case ∙ ap (λ (b : Bool). length test_case.name == 0 || not (b && is_good_name test_case.name)) told ∙ ap (λ (b : Bool). b || not (is_good_name test_case.name)) some)
