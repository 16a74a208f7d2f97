-- What lines say, and then other lines.
use Rattle.std.proofs.Common.{◌≡◌, ℕ, suc, ◌+◌, ◌<◌, ◌≤◌, Bool, true, false, ◌||◌, ◌&&◌, eqb, ltb, List, [], ◌∷◌, ◌++◌, length, take, drop, map, filter, Option, Some, None, refl, sym, ap, ◌∙◌, arith, inl, inr}
use Rattle.std.specs.List.{filter_map, last_or, onto_first, position, position_or_len, slice_split}
use Rattle.std.specs.Str.{bytes_eq}
use Rattle.std.specs.Str.Lines.{strip_carriage_return}
use Rattle.std.proofs.lemmas.Bool.{cases_Bool, cond-true, cond-false, ltb-true, ltb-false}
use Rattle.std.proofs.lemmas.List.Elements.{filter-append, filter_map-append}
use Rattle.std.proofs.lemmas.List.Folds.{list_any-append}
use Rattle.std.proofs.lemmas.List.Splits.{slice_split_first, slice_split-cons_no}
use Rattle.std.proofs.lemmas.Option.{none-some, same_Some}
use Rattle.std.proofs.Math.Path.{fun_ext}
use Rattle.base.specs.declared.child.MaybeText.TheVariants.{Given}
use Rattle.testbench_runs.specs.declared.ends.Verdict.{Verdict}
use Rattle.testbench_runs.specs.Verdicts.{HasAll, case_starts, case_verdict, ends_well, has_case, is_done_line, result_lines, says_done, started_name, verdicts}
use Rattle.testbench_runs.specs.Starts.{Adds, Sayings, no_sayings, verdict_by}

-- ## Starts of lines after one another

pub starts_both : (cases lines others : List (List ℕ)) → case_starts cases (lines ++ others) ≡ case_starts cases lines ++ case_starts cases others
starts_both cases lines others = ap (filter (has_case cases)) (filter_map-append started_name lines others) ∙ filter-append (has_case cases) (filter_map started_name lines) (filter_map started_name others)

last_both : {X : Type 0} (first : Option X) (xs ys : List X) → last_or first (xs ++ ys) ≡ last_or (last_or first xs) ys
last_both first [] ys = refl
last_both first (x ∷ xs) ys = last_both (Some x) xs ys

or_both : (p q r : Bool) → ((p || q) || r) ≡ (p || (q || r))
or_both true q r = refl
or_both false q r = refl

pub adds_both : (cases lines others : List (List ℕ)) (first between last : Sayings) → Adds cases lines first between → Adds cases others between last → Adds cases (lines ++ others) first last
adds_both cases lines others first between last a b = record {
  starts = λ name.
      b.starts name
      ∙ ap (λ (p : Bool). p || has_case (case_starts cases others) name) (a.starts name)
      ∙ or_both (has_case first.starts name) (has_case (case_starts cases lines) name) (has_case (case_starts cases others) name)
      ∙ ap (λ (p : Bool). has_case first.starts name || p) (sym (list_any-append (λ other. bytes_eq other name) (case_starts cases lines) (case_starts cases others)))
      ∙ ap (λ (starts : List (List ℕ)). has_case first.starts name || has_case starts name) (sym (starts_both cases lines others));
  last = b.last ∙ ap (λ (l : Option (List ℕ)). last_or l (case_starts cases others)) a.last ∙ sym (last_both first.last (case_starts cases lines) (case_starts cases others)) ∙ ap (last_or first.last) (sym (starts_both cases lines others));
  is_done = b.is_done ∙ ap (λ (p : Bool). p || says_done others) a.is_done ∙ or_both first.is_done (says_done lines) (says_done others) ∙ ap (λ (p : Bool). first.is_done || p) (sym (list_any-append is_done_line lines others));
}

-- ## The first line of a text

not_found : {X : Type 0} (p : X → Bool) (xs : List X) → length xs ≤ position_or_len p xs → slice_split p xs ≡ xs ∷ []
not_found p [] h = refl
not_found p (x ∷ xs) h =
    elim (cases_Bool (p x)) [
      | inl t ↦ let no_room : suc (length xs) ≤ 0 = rw t at h in absurd (omega arith)
      | inr f ↦ let less : suc (length xs) ≤ 1 + position_or_len p xs = rw f at h in slice_split-cons_no p x xs f ∙ ap (onto_first x) (not_found p xs (omega arith))
    ]

-- a text without a line feed is one line
pub one_line : (text : List ℕ) → position (λ byte. eqb byte 10) text ≡ None → result_lines text ≡ strip_carriage_return text ∷ []
one_line text h =
    let feed : ℕ → Bool = λ byte. eqb byte 10 in
    elim (cases_Bool (ltb (position_or_len feed text) (length text))) [
      | inl t ↦ absurd (none-some (position_or_len feed text) (sym h ∙ cond-true (ltb (position_or_len feed text) (length text)) (Some (position_or_len feed text)) None t))
      | inr f ↦ ap (map strip_carriage_return) (not_found feed text (ltb-false _ _ f))
    ]

-- a text with one is the line before the first, and the lines after it
pub first_line : (text : List ℕ) (at : ℕ) → position (λ byte. eqb byte 10) text ≡ Some at → result_lines text ≡ strip_carriage_return (take at text) ∷ result_lines (drop (at + 1) text)
first_line text at h =
    let feed : ℕ → Bool = λ byte. eqb byte 10 in
    elim (cases_Bool (ltb (position_or_len feed text) (length text))) [
      | inl t ↦
          let same : position_or_len feed text ≡ at = same_Some _ _ (sym (cond-true (ltb (position_or_len feed text) (length text)) (Some (position_or_len feed text)) None t) ∙ h) in
          let low : position_or_len feed text < length text = ltb-true _ _ t in
          ap (map strip_carriage_return) (rw same at (slice_split_first feed text 0 low))
      | inr f ↦ absurd (none-some at (sym (cond-false (ltb (position_or_len feed text) (length text)) (Some (position_or_len feed text)) None f) ∙ h))
    ]

-- ## Verdicts

module _ (cases set : List (List ℕ)) (code : ℕ) (text : List ℕ) (said : Sayings) (same : HasAll set cases) (adds : Adds set (result_lines text) no_sayings said) where
  same_starts : case_starts set (result_lines text) ≡ case_starts cases (result_lines text)
  same_starts = ap (λ (test : List ℕ → Bool). filter test (filter_map started_name (result_lines text))) (fun_ext same)

  has_started : (name : List ℕ) → has_case said.starts name ≡ has_case (case_starts cases (result_lines text)) name
  has_started name = adds.starts name ∙ ap (λ (starts : List (List ℕ)). has_case starts name) same_starts

  last_is : said.last ≡ last_or None (case_starts cases (result_lines text))
  last_is = adds.last ∙ ap (last_or None) same_starts

  same_verdict : (name : List ℕ) → verdict_by said (eqb code 0 && said.is_done) name ≡ case_verdict (case_starts cases (result_lines text)) (ends_well code (result_lines text)) name
  same_verdict name = rw (has_started name, last_is, adds.is_done) refl

  -- the verdicts computed from what the lines say are those of the text
  pub verdicts_said : map (verdict_by said (eqb code 0 && said.is_done)) cases ≡ verdicts cases false code (Given text)
  unfolding verdicts
  verdicts_said = ap (λ (f : List ℕ → Verdict). map f cases) (fun_ext same_verdict)
