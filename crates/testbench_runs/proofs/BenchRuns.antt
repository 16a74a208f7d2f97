-- The runs of benches: their names, their number and their sizes.
use Rattle.std.proofs.Common.{◌≡◌, ℕ, zero, suc, ◌+◌, ◌≤◌, true, false, not, eqb, cond, List, [], ◌∷◌, ◌++◌, length, map, refl, sym, ap, subst, ◌∙◌, arith, inl, inr}
use Rattle.std.specs.Prelude.{All, codes, sum_by}
use Rattle.std.specs.List.{AllByRecursion, flat_map}
use Rattle.std.proofs.lemmas.Bool.{cases_Bool, cond-true, cond-false}
use Rattle.std.proofs.lemmas.Grind.{flat_map-append}
use Rattle.std.proofs.lemmas.List.{append-nil, length-append, length-map}
use Rattle.std.proofs.lemmas.List.Concat.{flat_map-cons}
use Rattle.std.proofs.lemmas.List.Sums.{sum_by-cons}
use Rattle.base.specs.declared.project.ProjectFile.{ProjectFile}
use Rattle.base.specs.declared.limits.TheConstants.{CASE_LIMIT, TEXT_LIMIT}
use Rattle.base_outcomes.specs.declared.bench.Bench.{Bench}
use Rattle.base_outcomes.specs.declared.bench.TestCase.{TestCase}
use Rattle.testbench_select.specs.Selection.{bench_names, count_of_tests, full_name, has_cases}
use Rattle.testbench_runs.specs.declared.runs.TestRun.{TestRun}
use Rattle.testbench_runs.specs.Runs.{FitsBench, FitsRun, HasWholeCase, bench_runs, case_names, run_with, test_runs}

pub by_recursion : {X : Type 0} (P : X → Type 0) (xs : List X) → All P xs → AllByRecursion P xs
by_recursion P [] all = tt
by_recursion P (x ∷ xs) all = (all 0 x (omega arith), by_recursion P xs (λ k d l. all (suc k) d (omega arith)))

-- the names of cases
abbrev names_of : List TestCase → List (List ℕ)
names_of cases = map (λ test. test.name) cases

some_case : (cases : List TestCase) → not (eqb (length cases) 0) ≡ true → 1 ≤ length cases
some_case [] e = absurd cc
some_case (test ∷ cases) e = omega arith

alone : (run : TestRun) → FitsRun run → All FitsRun (run ∷ [])
alone run fits zero d lt = fits
alone run fits (suc k) d lt = absurd (omega (arith, lt))

same_sum : (cases : List TestCase) → sum_by (λ name. length name) (names_of cases) ≡ sum_by (λ test. length test.name) cases
same_sum [] = refl
same_sum (test ∷ cases) =
    sum_by-cons (λ name. length name) test.name (names_of cases) ∙ ap (λ n. length test.name + n) (same_sum cases) ∙ sym (sum_by-cons (λ test. length test.name) test cases)

module _ (files : List ProjectFile) (bench : Bench) where
  -- the full name of a case of the bench
  abbrev whole_name : List ℕ → List ℕ
  whole_name name = bench.library ++ (codes "." ++ (bench.name ++ (codes "." ++ name)))

  -- the run of one case
  abbrev one_run : TestCase → TestRun
  one_run test = run_with files bench (test.name ∷ [])

  named : (cases : List TestCase) → map whole_name (names_of cases) ≡ map (full_name bench) cases
  named [] = refl
  named (test ∷ cases) = ap (λ (names : List (List ℕ)). full_name bench test ∷ names) (named cases)

  one_by_one : bench.whole ≡ false → (cases : List TestCase) → flat_map case_names (map one_run cases) ≡ map (full_name bench) cases
  one_by_one f [] = refl
  one_by_one f (test ∷ cases) =
      let one : case_names (one_run test) ≡ full_name bench test ∷ [] = rw f refl in
      flat_map-cons case_names (one_run test) (map one_run cases) ∙ ap (λ (names : List (List ℕ)). names ++ flat_map case_names (map one_run cases)) one
      ∙ ap (λ (names : List (List ℕ)). full_name bench test ∷ names) (one_by_one f cases)

  fit_cases : FitsBench files bench → (names : List (List ℕ)) → length names ≤ CASE_LIMIT → sum_by (λ name. length name) names ≤ TEXT_LIMIT → FitsRun (run_with files bench names)
  fit_cases fits names few small = record { library = fits.library; bench = fits.name; architecture = fits.architecture; few = few; cases = small; path = fits.path }

  each_fits : FitsBench files bench → (cases : List TestCase) → sum_by (λ test. length test.name) cases ≤ TEXT_LIMIT → All FitsRun (map one_run cases)
  each_fits fits [] small k d lt = absurd (omega arith)
  each_fits fits (test ∷ cases) small zero d lt = fit_cases fits (test.name ∷ []) (omega arith) (omega (arith, small, sum_by-cons (λ test. length test.name) test cases))
  each_fits fits (test ∷ cases) small (suc k) d lt = each_fits fits cases (omega (arith, small, sum_by-cons (λ test. length test.name) test cases)) k d (omega (arith, lt))

  -- the runs of each kind of bench
  runs_whole : bench.whole ≡ true → bench_runs files bench ≡ run_with files bench [] ∷ []
  unfolding bench_runs
  runs_whole t =
      cond-true bench.whole (run_with files bench [] ∷ []) (cond bench.same_sim (run_with files bench (names_of bench.cases) ∷ []) (map one_run bench.cases)) t

  runs_same : bench.whole ≡ false → bench.same_sim ≡ true → bench_runs files bench ≡ run_with files bench (names_of bench.cases) ∷ []
  unfolding bench_runs
  runs_same f t =
      cond-false bench.whole (run_with files bench [] ∷ []) (cond bench.same_sim (run_with files bench (names_of bench.cases) ∷ []) (map one_run bench.cases)) f
      ∙ cond-true bench.same_sim (run_with files bench (names_of bench.cases) ∷ []) (map one_run bench.cases) t

  runs_apart : bench.whole ≡ false → bench.same_sim ≡ false → bench_runs files bench ≡ map one_run bench.cases
  unfolding bench_runs
  runs_apart f g =
      cond-false bench.whole (run_with files bench [] ∷ []) (cond bench.same_sim (run_with files bench (names_of bench.cases) ∷ []) (map one_run bench.cases)) f
      ∙ cond-false bench.same_sim (run_with files bench (names_of bench.cases) ∷ []) (map one_run bench.cases) g

  names_alone : (names : List (List ℕ)) → flat_map case_names (run_with files bench names ∷ []) ≡ case_names (run_with files bench names)
  names_alone names = flat_map-cons case_names (run_with files bench names) [] ∙ append-nil (case_names (run_with files bench names))

  names_of_one : HasWholeCase bench → flat_map case_names (bench_runs files bench) ≡ bench_names bench
  names_of_one whole =
      elim (cases_Bool bench.whole) [
        | inl t ↦ ap (flat_map case_names) (runs_whole t) ∙ names_alone [] ∙ ap (map whole_name) (cond-true bench.whole (codes "all" ∷ []) [] t ∙ sym (whole t)) ∙ named bench.cases
        | inr f ↦ elim (cases_Bool bench.same_sim) [
          | inl t ↦
              ap (flat_map case_names) (runs_same f t) ∙ names_alone (names_of bench.cases)
              ∙ ap (map whole_name) (cond-false bench.whole (codes "all" ∷ []) (names_of bench.cases) f) ∙ named bench.cases
          | inr g ↦ ap (flat_map case_names) (runs_apart f g) ∙ one_by_one f bench.cases
        ]
      ]

  few_of_one : has_cases bench ≡ true → length (bench_runs files bench) ≤ length bench.cases
  few_of_one some =
      elim (cases_Bool bench.whole) [
        | inl t ↦ omega (arith, ap length (runs_whole t), some_case bench.cases some)
        | inr f ↦ elim (cases_Bool bench.same_sim) [
          | inl t ↦ omega (arith, ap length (runs_same f t), some_case bench.cases some)
          | inr g ↦ omega (arith, ap length (runs_apart f g), length-map bench.cases one_run)
        ]
      ]

  pub runs_fit : FitsBench files bench → All FitsRun (bench_runs files bench)
  runs_fit fits =
      elim (cases_Bool bench.whole) [
        | inl t ↦ subst (All FitsRun) (sym (runs_whole t)) (alone (run_with files bench []) (fit_cases fits [] (omega arith) (omega arith)))
        | inr f ↦ elim (cases_Bool bench.same_sim) [
          | inl t ↦ subst (All FitsRun) (sym (runs_same f t)) (alone (run_with files bench (names_of bench.cases)) (fit_cases fits (names_of bench.cases) (omega (arith, length-map bench.cases (λ (test : TestCase). test.name), fits.few)) (omega (arith, same_sum bench.cases, fits.cases))))
          | inr g ↦ subst (All FitsRun) (sym (runs_apart f g)) (each_fits fits bench.cases fits.cases)
        ]
      ]

pub names_of_all : (files : List ProjectFile) (benches : List Bench) → AllByRecursion HasWholeCase benches → flat_map case_names (test_runs files benches) ≡ flat_map bench_names benches
names_of_all files [] whole = refl
names_of_all files (bench ∷ benches) whole =
    ap (flat_map case_names) (flat_map-cons (bench_runs files) bench benches)
    ∙ flat_map-append case_names (bench_runs files bench) (test_runs files benches)
    ∙ ap (λ (names : List (List ℕ)). names ++ flat_map case_names (test_runs files benches)) (names_of_one files bench whole.0)
    ∙ ap (λ (names : List (List ℕ)). bench_names bench ++ names) (names_of_all files benches whole.1)
    ∙ sym (flat_map-cons bench_names bench benches)

pub few_runs : (files : List ProjectFile) (benches : List Bench) → AllByRecursion (λ bench. has_cases bench ≡ true) benches → length (test_runs files benches) ≤ count_of_tests benches
few_runs files [] some = omega arith
few_runs files (bench ∷ benches) some =
    let whole : length (test_runs files (bench ∷ benches)) ≡ length (bench_runs files bench) + length (test_runs files benches) =
    ap length (flat_map-cons (bench_runs files) bench benches) ∙ length-append (bench_runs files bench) (test_runs files benches) in
    omega (arith, whole, few_of_one files bench some.0, few_runs files benches some.1, sum_by-cons (λ (b : Bench). length b.cases) bench benches)
