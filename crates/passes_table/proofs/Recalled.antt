-- What is recalled of a run by the last pass of the same tests.
use Rattle.std.proofs.Common.{◌≡◌, ℕ, Bool, true, false, cond, List, [], ◌∷◌, None, Some, Option, refl, sym, ap, ◌∙◌}
use Rattle.std.specs.Prelude.{slice_get}
use Rattle.std.specs.Bool.{Decides}
use Rattle.std.specs.Option.{option_or}
use Rattle.std.specs.Str.{bytes_eq}
use Rattle.std.specs.Cmp.Lexicographic.{pointwise, pointwise_decides}
use Rattle.std.proofs.Math.Bool.{beq}
use Rattle.std.proofs.lemmas.Bool.Decides.{Decides-like, Decides-and}
use Rattle.std.proofs.lemmas.Option.{same_Some}
use Rattle.std.proofs.lemmas.Slice.Eq.{bytes_eq-Decides}
use Rattle.base.specs.declared.graph.BuiltFile.{BuiltFile}
use Rattle.testbench_runs.specs.declared.runs.TestRun.{TestRun}
use Rattle.passes_spec.specs.Passes.{Pass, is_of_tests, last_pass}
use Rattle.passes_spec.specs.KnownRuns.{is_current, output_for, output_if, recalled}
use Rattle.passes_codec.proofs.Deciding.{same_list-Decides}
use Rattle.passes_table.specs.States.{HasRest, HasTests, IsLastRow}
use Rattle.passes_table.proofs.LastRows.{of_tests-Decides}

flags-Decides : (a b : Bool) → Decides (beq a b) (a ≡ b)
flags-Decides true true = (λ e. refl, λ e. refl)
flags-Decides false false = (λ e. refl, λ e. refl)
flags-Decides true false = (λ e. absurd cc, λ e. absurd cc)
flags-Decides false true = (λ e. absurd cc, λ e. absurd cc)

texts-Decides : (a b : List (List ℕ)) → Decides (pointwise bytes_eq a b) (a ≡ b)
texts-Decides = pointwise_decides bytes_eq-Decides

-- A pass is current: it is of the same tests, of the same run, and over these files.
record IsCurrent (run : TestRun) (simulator : List (List ℕ)) (built : List BuiltFile) (pass : Pass) : Type 0 where
  tests : HasTests run simulator pass
  rest : HasRest run pass
  files : pass.built ≡ built

current-Decides : (run : TestRun) (simulator : List (List ℕ)) (built : List BuiltFile) (pass : Pass) → Decides (is_current run simulator built pass) (IsCurrent run simulator built pass)
current-Decides run simulator built pass =
    Decides-like (is_current run simulator built pass)
    (λ h. record {
      tests = record { library = h.0.0; bench = h.0.1.0; cases = h.0.1.1.1.0; simulator_is = h.1.0 };
      rest = record { architecture = h.0.1.1.0; path = h.0.1.1.1.1.1.1; whole = h.0.1.1.1.1.0; same_sim = h.0.1.1.1.1.1.0 };
      files = h.1.1;
    })
    (λ is. ((is.tests.library, (is.tests.bench, (is.rest.architecture, (is.tests.cases, (is.rest.whole, (is.rest.same_sim, is.rest.path)))))), (is.tests.simulator_is, is.files)))
    (Decides-and _ _
    (Decides-and _ _ (bytes_eq-Decides pass.run.library run.library)
    (Decides-and _ _ (bytes_eq-Decides pass.run.bench run.bench)
    (Decides-and _ _ (bytes_eq-Decides pass.run.architecture run.architecture)
    (Decides-and _ _ (texts-Decides pass.run.cases run.cases)
    (Decides-and _ _ (flags-Decides pass.run.whole run.whole) (Decides-and _ _ (flags-Decides pass.run.same_sim run.same_sim) (bytes_eq-Decides pass.run.path run.path)))))))
    (Decides-and _ _ (texts-Decides pass.simulator simulator) (same_list-Decides pass.built built)))

undecided : {P : Type 0} (b : Bool) → Decides b P → (¬ P) → b ≡ false
undecided true d never = absurd (never (d.0 refl))
undecided false d never = refl

-- the last pass of the same tests is of these
last_is : (run : TestRun) (simulator : List (List ℕ)) (passes : List Pass) (pass : Pass) → last_pass run simulator passes ≡ Some pass → is_of_tests run simulator pass ≡ true
unfolding last_pass
last_is run simulator [] pass e = absurd cc
last_is run simulator (first ∷ rest) pass e = by (last_pass run simulator rest) (λ f. last_is run simulator rest pass f) (is_of_tests run simulator first) refl e
  where
    by : (found : Option Pass) → (found ≡ Some pass → is_of_tests run simulator pass ≡ true) → (of : Bool) → is_of_tests run simulator first ≡ of → option_or found (cond of (Some first) None) ≡ Some pass → is_of_tests run simulator pass ≡ true
    by (Some later) f of g h = f h
    by None f true g h = ap (is_of_tests run simulator) (sym (same_Some first pass h)) ∙ g
    by None f false g h = absurd cc

module _ (passes : List Pass) (run : TestRun) (simulator : List (List ℕ)) (built : List BuiltFile) (number : ℕ) (pass : Pass) (last : IsLastRow passes run simulator (Some number)) (at : slice_get passes number ≡ Some pass) where
  is_last : last_pass run simulator passes ≡ Some pass
  is_last = last.1 ∙ at

  tests : HasTests run simulator pass
  tests = (of_tests-Decides run simulator pass).0 (last_is run simulator passes pass is_last)

  recalled_by : (current : Bool) → is_current run simulator built pass ≡ current → recalled passes simulator built run ≡ output_if current pass
  recalled_by current e = ap (output_for run simulator built) is_last ∙ ap (λ (b : Bool). output_if b pass) e

  pub recalled_some : HasRest run pass → pass.built ≡ built → recalled passes simulator built run ≡ Some pass.output
  recalled_some rest files = recalled_by true ((current-Decides run simulator built pass).1 (record { tests = tests; rest = rest; files = files }))

  pub recalled_rest : (¬ HasRest run pass) → recalled passes simulator built run ≡ None
  recalled_rest never = recalled_by false (undecided (is_current run simulator built pass) (current-Decides run simulator built pass) (λ is. never is.rest))

  pub recalled_list : (¬ (pass.built ≡ built)) → recalled passes simulator built run ≡ None
  recalled_list never = recalled_by false (undecided (is_current run simulator built pass) (current-Decides run simulator built pass) (λ is. never is.files))

-- no pass of the same tests
pub recalled_none : (passes : List Pass) (run : TestRun) (simulator : List (List ℕ)) (built : List BuiltFile) → IsLastRow passes run simulator None → recalled passes simulator built run ≡ None
recalled_none passes run simulator built none = ap (output_for run simulator built) none
