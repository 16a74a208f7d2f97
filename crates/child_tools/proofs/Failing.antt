-- Cases that fail, line after line, and file after file.
use Rattle.std.proofs.Common.{◌≡◌, ℕ, zero, suc, ◌<◌, Bool, true, false, ◌||◌, ◌&&◌, Some, None, List, [], ◌∷◌, length, get_or, map, codes, refl, sym, ap, subst, ◌∙◌, arith}
use Rattle.std.specs.List.{list_any}
use Rattle.std.specs.Str.{bytes_eq}
use Rattle.std.proofs.lemmas.Slice.Eq.{bytes_eq-Decides}
use Rattle.testbench_runs.specs.Verdicts.{has_case}
use Rattle.testbench_runs.specs.declared.jobs.BenchJob.{BenchJob}
use Rattle.child_lines.specs.Lines.{after_word}
use Rattle.child_tools.specs.Benches.{fails, full_name, is_failure}
use Rattle.child_tools.specs.Failures.{KnowsFailures, Takes}
use Rattle.child_tools.proofs.Said.{failure_said, is_after}

-- what is in the set once the lines that are left are gone over
abbrev pub in_time : List (List ℕ) → List (List ℕ) → List (List ℕ) → List ℕ → Bool
in_time wanted left failing name = has_case failing name || (has_case wanted name && list_any (is_failure name) left)

or_true : (b : Bool) → (b || true) ≡ true
or_true true = refl
or_true false = refl

or_false : (b : Bool) → (b || false) ≡ b
or_false true = refl
or_false false = refl

and_false : (b : Bool) → (b && false) ≡ false
and_false true = refl
and_false false = refl

-- ## A line

module _ (wanted failing : List (List ℕ)) (line : List ℕ) where
  alone : (b w : Bool) → (b || (w && false)) ≡ b
  alone true w = refl
  alone false true = refl
  alone false false = refl

  same : (name : List ℕ) → is_failure name line ≡ false → has_case failing name ≡ (has_case failing name || (has_case wanted name && is_failure name line))
  same name none = sym (ap (λ (f : Bool). has_case failing name || (has_case wanted name && f)) none ∙ alone (has_case failing name) (has_case wanted name))

  -- a line that says nothing of a case
  pub no_name : after_word (codes "script fail ") line ≡ None → Takes wanted (λ name. is_failure name line) failing failing
  no_name none name = same name (failure_said name line ∙ ap (is_after name) none)

  module _ (found : List ℕ) (some : after_word (codes "script fail ") line ≡ Some found) where
    says : (name : List ℕ) → is_failure name line ≡ bytes_eq found name
    says name = failure_said name line ∙ ap (is_after name) some

    -- one that says so of a case that isn't wanted
    pub not_wanted : has_case wanted found ≡ false → Takes wanted (λ name. is_failure name line) failing failing
    not_wanted isnt name = by (bytes_eq found name) refl where
      by : (is : Bool) → bytes_eq found name ≡ is → has_case failing name ≡ (has_case failing name || (has_case wanted name && is_failure name line))
      by false differ = same name (says name ∙ differ)
      by true told =
          let other : has_case wanted name ≡ false = subst (λ (n : List ℕ). has_case wanted n ≡ false) ((bytes_eq-Decides found name).0 told) isnt in
          sym (ap (λ (w : Bool). has_case failing name || (w && is_failure name line)) other ∙ or_false (has_case failing name))

    -- one that says so of a case that is wanted
    pub one_more : (new : List (List ℕ)) → has_case wanted found ≡ true → ((name : List ℕ) → has_case new name ≡ (has_case failing name || bytes_eq found name)) → Takes wanted (λ name. is_failure name line) failing new
    one_more new is adds name = adds name ∙ ap (λ (b : Bool). has_case failing name || b) (by (bytes_eq found name) refl) where
      by : (same : Bool) → bytes_eq found name ≡ same → bytes_eq found name ≡ (has_case wanted name && is_failure name line)
      by false differ = differ ∙ sym (ap (λ (f : Bool). has_case wanted name && f) (says name ∙ differ) ∙ and_false (has_case wanted name))
      by true told =
          let other : has_case wanted name ≡ true = subst (λ (n : List ℕ). has_case wanted n ≡ true) ((bytes_eq-Decides found name).0 told) is in
          told ∙ sym (ap (λ (w : Bool). w && is_failure name line) other ∙ (says name ∙ told))

-- ## All cases of a bench

-- each of some names is among them, after a function
among : (f : List ℕ → List ℕ) (names : List (List ℕ)) (i : ℕ) (name : List ℕ) → i < length names → name ≡ get_or names i name → has_case (map f names) (f name) ≡ true
among f [] i name within is = absurd (omega arith)
among f (first ∷ names) zero name within is = ap (λ (b : Bool). b || has_case (map f names) (f name)) ((bytes_eq-Decides (f first) (f name)).1 (ap f (sym is)))
among f (first ∷ names) (suc i) name within is = ap (λ (b : Bool). bytes_eq (f first) (f name) || b) (among f names i name (omega arith) is) ∙ or_true (bytes_eq (f first) (f name))

module _ (job : BenchJob) (failing : List (List ℕ)) (knows : KnowsFailures job failing) where
  -- a case of the bench
  pub case_fails : (i : ℕ) (name : List ℕ) → i < length job.cases → name ≡ get_or job.cases i name → has_case failing (full_name job name) ≡ fails job.built (full_name job name)
  case_fails i name within is =
      knows (full_name job name) (among (full_name job) (codes "all" ∷ job.cases) (suc i) name (omega arith) is)
