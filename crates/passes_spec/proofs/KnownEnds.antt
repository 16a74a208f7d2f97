-- The recalled end of a run that is known to pass is the end that it would have if it were started; and passes stay true.
use Rattle.std.proofs.Common.{◌≡◌, ℕ, Bool, true, false, List, [], ◌∷◌, take, drop, map, Option, Some, None, refl, sym, ap, subst, ◌∙◌, inl, inr, codes, if◌then◌else◌}
use Rattle.std.specs.Prelude.{All}
use Rattle.std.specs.List.{list_all}
use Rattle.std.specs.Cmp.{booleans_Decides}
use Rattle.std.specs.Cmp.Lexicographic.{pointwise, pointwise_decides}
use Rattle.std.proofs.lemmas.Bool.{and_parts}
use Rattle.std.proofs.lemmas.List.Elements.{All-nil, All-append, All-take}
use Rattle.std.proofs.lemmas.Option.{same_Some}
use Rattle.std.proofs.lemmas.Slice.Eq.{bytes_eq-Decides}
use Rattle.base.specs.declared.child.Request.{Request}
use Rattle.base.specs.declared.child.Exit.{Exit}
use Rattle.base.specs.declared.child.MaybeText.{MaybeText}
use Rattle.base.specs.declared.child.MaybeText.TheVariants.{Nothing, Given}
use Rattle.base.specs.declared.graph.BuiltFile.{BuiltFile}
use Rattle.testbench_runs.specs.declared.runs.TestRun.{TestRun}
use Rattle.testbench_runs.specs.declared.ends.RunEnd.{RunEnd}
use Rattle.testbench_runs.specs.declared.ends.Verdict.{Verdict}
use Rattle.testbench_runs.specs.declared.ends.Verdict.TheVariants.{Passed, Failed, Skipped}
use Rattle.testbench_runs.specs.declared.ends.TheConstants.{SHOWN_LIMIT}
use Rattle.testbench_runs.specs.BenchJobs.{bench_request}
use Rattle.testbench_runs.specs.Runs.{case_names, counted_cases, name_of_case}
use Rattle.testbench_runs.specs.Verdicts.{case_starts, case_verdict, ended_run, ends_well, is_passed, is_passed_verdict, result_lines, run_verdicts, started_ends, verdicts}
use Rattle.passes_spec.specs.Passes.{Pass, IsTruePass, last_pass, request_of_pass, last_passes}
use Rattle.passes_spec.specs.KnownRuns.{ends_after, end_or, is_current, is_same_file, is_same_run, left_if, merged_ends, output_for, output_if, passed_run, recalled, runs_left}
use Rattle.passes_spec.specs.PassImages.{HasPasses, IsBase}
use Rattle.passes_spec.proofs.SameTests.{All-last, All-last_passes, last_of_last_passes}

-- ## One verdict for each case

-- a list of as many
abbrev counted : {X : Type 0} → List X → List (Unit {0})
counted list = map (λ item. tt {0}) list

counted_map : {X Y : Type 0} (f : X → Y) (list : List X) → counted (map f list) ≡ counted list
counted_map f [] = refl
counted_map f (item ∷ list) = ap (λ (rest : List (Unit {0})). tt {0} ∷ rest) (counted_map f list)

table_each : (cases : List (List ℕ)) (whole : Bool) (code : ℕ) (results : MaybeText) → counted (verdicts cases whole code results) ≡ counted (if whole then codes "all" ∷ [] else cases)
unfolding verdicts
table_each cases true code Nothing = refl
table_each cases true code (Given text) = refl
table_each cases false code Nothing = counted_map (λ name. Failed) cases
table_each cases false code (Given text) = counted_map (case_verdict (case_starts cases (result_lines text)) (ends_well code (result_lines text))) cases

-- where all verdicts are passed, they are as many passed ones as there are names
all_passed : {X : Type 0} (list : List Verdict) (names : List X) → counted list ≡ counted names → list_all is_passed_verdict list ≡ true → list ≡ map (λ name. Passed) names
all_passed [] [] same all = refl
all_passed [] (name ∷ names) same all = let nothing : ⊥ = cc in absurd nothing
all_passed (verdict ∷ list) [] same all = let nothing : ⊥ = cc in absurd nothing
all_passed (Passed ∷ list) (name ∷ names) same all = ap (λ (rest : List Verdict). Passed ∷ rest) (all_passed list names (ap (drop 1) same) all)
all_passed (Failed ∷ list) (name ∷ names) same all = let nothing : ⊥ = cc in absurd nothing
all_passed (Skipped ∷ list) (name ∷ names) same all = let nothing : ⊥ = cc in absurd nothing

passed_verdicts : (run : TestRun) (exit : Exit) → is_passed run exit ≡ true → run_verdicts run exit ≡ map (λ name. Passed) (case_names run)
passed_verdicts run exit passed =
    all_passed (run_verdicts run exit) (case_names run) (table_each run.cases run.whole exit.code exit.results ∙ sym (counted_map (name_of_case run) (counted_cases run))) passed

-- ## The test of a pass decides whether its run, simulator and files are these

same_files : (a b : BuiltFile) → is_same_file a b ≡ true → a ≡ b
same_files a b t =
    let one = and_parts _ _ t in
    let two = and_parts _ _ one.0 in
    let library : a.name.library ≡ b.name.library = (bytes_eq-Decides a.name.library b.name.library).0 two.0 in
    let path : a.name.path ≡ b.name.path = (bytes_eq-Decides a.name.path b.name.path).0 two.1 in
    let artefact : a.artefact ≡ b.artefact = (bytes_eq-Decides a.artefact b.artefact).0 one.1 in
    let both : record { name = record { library = a.name.library; path = a.name.path }; artefact = a.artefact } ≡ (record { name = record { library = b.name.library; path = b.name.path }; artefact = b.artefact }) = cc in
    both

same_runs : (a b : TestRun) → is_same_run a b ≡ true → a ≡ b
same_runs a b t =
    let one = and_parts _ _ t in
    let two = and_parts _ _ one.1 in
    let three = and_parts _ _ two.1 in
    let four = and_parts _ _ three.1 in
    let five = and_parts _ _ four.1 in
    let six = and_parts _ _ five.1 in
    let library : a.library ≡ b.library = (bytes_eq-Decides a.library b.library).0 one.0 in
    let bench : a.bench ≡ b.bench = (bytes_eq-Decides a.bench b.bench).0 two.0 in
    let architecture : a.architecture ≡ b.architecture = (bytes_eq-Decides a.architecture b.architecture).0 three.0 in
    let cases : a.cases ≡ b.cases = (pointwise_decides bytes_eq-Decides a.cases b.cases).0 four.0 in
    let whole : a.whole ≡ b.whole = (booleans_Decides a.whole b.whole).0 five.0 in
    let same_sim : a.same_sim ≡ b.same_sim = (booleans_Decides a.same_sim b.same_sim).0 six.0 in
    let path : a.path ≡ b.path = (bytes_eq-Decides a.path b.path).0 six.1 in
    let both : record { library = a.library; bench = a.bench; architecture = a.architecture; cases = a.cases; whole = a.whole; same_sim = a.same_sim; path = a.path } ≡ (record { library = b.library; bench = b.bench; architecture = b.architecture; cases = b.cases; whole = b.whole; same_sim = b.same_sim; path = b.path }) = cc in
    both

-- pointwise, where the test is one way alone
same_lists : (xs ys : List BuiltFile) → pointwise is_same_file xs ys ≡ true → xs ≡ ys
same_lists [] [] t = refl
same_lists [] (y ∷ ys) t = let nothing : ⊥ = cc in absurd nothing
same_lists (x ∷ xs) [] t = let nothing : ⊥ = cc in absurd nothing
same_lists (x ∷ xs) (y ∷ ys) t =
    let parts = and_parts _ _ t in
    let head : x ≡ y = same_files x y parts.0 in
    let tail : xs ≡ ys = same_lists xs ys parts.1 in
    cc

-- a current pass has this run, this simulator and these files
same_request : (run : TestRun) (simulator : List (List ℕ)) (built : List BuiltFile) (pass : Pass) → is_current run simulator built pass ≡ true →
    (pass.run ≡ run) × (pass.simulator ≡ simulator) × (pass.built ≡ built)
same_request run simulator built pass t =
    let one = and_parts _ _ t in
    let two = and_parts _ _ one.1 in
    (same_runs pass.run run one.0, (pointwise_decides bytes_eq-Decides pass.simulator simulator).0 two.0, same_lists pass.built built two.1)

-- compaction changes no recalled output
pub still_known : (passes : List Pass) (simulator : List (List ℕ)) (built : List BuiltFile) (run : TestRun) → recalled (last_passes passes) simulator built run ≡ recalled passes simulator built run
still_known passes simulator built run = ap (output_for run simulator built) (last_of_last_passes run simulator passes)

module _ (answer : Request → Exit) where
  abbrev True : Pass → Type 0
  True pass = IsTruePass answer pass

  -- the end of the run of a true pass: each case has passed, with the output of the pass
  true_end : (pass : Pass) → True pass → ended_run pass.run (answer (request_of_pass pass)) ≡ passed_run pass.run pass.output
  true_end pass is =
      let exit : Exit = answer (request_of_pass pass) in
      ap (λ (list : List Verdict). record { names = case_names pass.run; verdicts = list; output = take SHOWN_LIMIT exit.output }) (passed_verdicts pass.run exit is.passes)
      ∙ ap (λ (bytes : List ℕ). record { names = case_names pass.run; verdicts = map (λ name. Passed) (case_names pass.run); output = bytes }) (sym is.prints)

  current_end : (run : TestRun) (simulator : List (List ℕ)) (built : List BuiltFile) (pass : Pass) → True pass → (same : Bool) → is_current run simulator built pass ≡ same → (output : List ℕ) → output_if same pass ≡ Some output →
      ended_run run (answer (bench_request run simulator built)) ≡ passed_run run output
  current_end run simulator built pass is false e output given = absurd (let nothing : ⊥ = cc in nothing)
  current_end run simulator built pass is true e output given =
      let parts = same_request run simulator built pass e in
      let printed : pass.output ≡ output = same_Some pass.output output given in
      let end = true_end pass is in
      subst (λ (o : List ℕ). ended_run run (answer (bench_request run simulator built)) ≡ passed_run run o) printed
      (subst (λ (files : List BuiltFile). ended_run run (answer (bench_request run simulator files)) ≡ passed_run run pass.output) parts.2
      (subst (λ (words : List (List ℕ)). ended_run run (answer (bench_request run words pass.built)) ≡ passed_run run pass.output) parts.1
      (subst (λ (one : TestRun). ended_run one (answer (bench_request one pass.simulator pass.built)) ≡ passed_run one pass.output) parts.0 end)))

  known_end : (run : TestRun) (simulator : List (List ℕ)) (built : List BuiltFile) (last : Option Pass) → ((pass : Pass) → last ≡ Some pass → True pass) → (output : List ℕ) → output_for run simulator built last ≡ Some output →
      ended_run run (answer (bench_request run simulator built)) ≡ passed_run run output
  known_end run simulator built None holds output given = absurd (let nothing : ⊥ = cc in nothing)
  known_end run simulator built (Some pass) holds output given = current_end run simulator built pass (holds pass refl) (is_current run simulator built pass) refl output given

  -- a known run would end as recalled if it were started
  pub known : (passes : List Pass) → All True passes → (simulator : List (List ℕ)) (built : List BuiltFile) (run : TestRun) (output : List ℕ) → recalled passes simulator built run ≡ Some output →
      ended_run run (answer (bench_request run simulator built)) ≡ passed_run run output
  known passes all simulator built run output given = known_end run simulator built (last_pass run simulator passes) (λ pass found. All-last True run simulator passes pass all found) output given

  -- ## Ends of the runs that were left, merged with the ends of the known runs

  abbrev end_now : List (List ℕ) → List BuiltFile → TestRun → RunEnd
  end_now simulator built run = ended_run run (answer (bench_request run simulator built))

  merged_one : (simulator : List (List ℕ)) (built : List BuiltFile) (knows : TestRun → Option (List ℕ)) (run : TestRun) (runs : List TestRun) (o : Option (List ℕ)) →
      ((output : List ℕ) → o ≡ Some output → end_now simulator built run ≡ passed_run run output) →
      let left : List TestRun = left_if o run (runs_left knows runs) in
      (end_or o run (started_ends answer simulator built left) ≡ end_now simulator built run)
      × (ends_after o (started_ends answer simulator built left) ≡ started_ends answer simulator built (runs_left knows runs))
  merged_one simulator built knows run runs None says = (refl, refl)
  merged_one simulator built knows run runs (Some output) says = (sym (says output refl), refl)

  all_merged : (simulator : List (List ℕ)) (built : List BuiltFile) (knows : TestRun → Option (List ℕ)) →
      ((run : TestRun) (output : List ℕ) → knows run ≡ Some output → end_now simulator built run ≡ passed_run run output) → (runs : List TestRun) →
      merged_ends knows runs (started_ends answer simulator built (runs_left knows runs)) ≡ started_ends answer simulator built runs
  unfolding merged_ends runs_left
  all_merged simulator built knows says [] = refl
  all_merged simulator built knows says (run ∷ runs) =
      let one = merged_one simulator built knows run runs (knows run) (says run) in
      let rest = all_merged simulator built knows says runs in
      ap (λ (end : RunEnd). end ∷ merged_ends knows runs (ends_after (knows run) (started_ends answer simulator built (left_if (knows run) run (runs_left knows runs))))) one.0
      ∙ ap (λ (ends : List RunEnd). end_now simulator built run ∷ merged_ends knows runs ends) one.1
      ∙ ap (λ (ends : List RunEnd). end_now simulator built run ∷ ends) rest

  pub all_known : (passes : List Pass) → All True passes → (simulator : List (List ℕ)) (built : List BuiltFile) (runs : List TestRun) →
      merged_ends (recalled passes simulator built) runs (started_ends answer simulator built (runs_left (recalled passes simulator built) runs)) ≡ started_ends answer simulator built runs
  all_known passes all simulator built runs = all_merged simulator built (recalled passes simulator built) (λ run output given. known passes all simulator built run output given) runs

  -- ## Passes stay true

  base_true : (before : List Pass) (clean : Bool) (base : List Pass) → All True before → IsBase before clean base → All True base
  base_true before clean base all (inr none) = subst (All True) (sym none.1) (All-nil True)
  base_true before clean base all (inl (inl same)) = subst (All True) (sym same) all
  base_true before clean base all (inl (inr last)) = subst (All True) (sym last) (All-last_passes True before all)

  pub stay_true : (before : List Pass) (clean : Bool) (recorded now : List Pass) → All True before → All True recorded → HasPasses before clean recorded now → All True now
  stay_true before clean recorded now all new has =
      subst (All True) (sym has.are) (All-append True has.base (take has.count recorded) (base_true before clean has.base all has.from) (All-take True has.count recorded new))
