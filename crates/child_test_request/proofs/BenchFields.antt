-- A bench job that is read is spelled so, and what is spelled so is read.
use Rattle.std.proofs.Common.{◌≡◌, ℕ, ◌^◌, ◌<◌, cond, eqb, List, [], ◌++◌, length, Option, Some, None, refl, sym, ap, subst, ◌∙◌}
use Rattle.std.specs.Prelude.{codes}
use Rattle.std.specs.List.{AllByRecursion}
use Rattle.std.proofs.lemmas.List.{append-nil}
use Rattle.base.specs.Bytes.{text_bytes}
use Rattle.base.specs.Jobs.{all_built_bytes}
use Rattle.base_bytes.specs.Reading.{◌>>=◌, AreBytes, Takes, counted_at, text_at}
use Rattle.base_bytes.proofs.Fields.{bind_some, guard_ended, Takes-then, ends_there, text_takes, text_again}
use Rattle.base_bytes.proofs.Many.{by_recursion, by_index, counted_take, counted_again}
use Rattle.child_compile_request.specs.Reading.{all_built_at}
use Rattle.child_compile_request.proofs.Jobs.{all_takes, all_again}
use Rattle.child_compile_request.proofs.Spelled.{behind_again, behind_takes}
use Rattle.testbench_runs.specs.declared.jobs.BenchJob.{BenchJob}
use Rattle.testbench_runs.specs.BenchJobs.{IsBenchJob, bench_input, texts_bytes}
use Rattle.child_test_request.specs.Reading.{bench_at, bench_fields_at}

abbrev IsShort : List ℕ → Type 0
IsShort text = length text < 2 ^ 32

cases_take : (bytes : List ℕ) (cases : List (List ℕ)) (left : List ℕ) → AreBytes bytes → counted_at text_at bytes ≡ Some (cases, left)
    → Takes bytes (texts_bytes cases) left × (length cases < 2 ^ 32) × AllByRecursion IsShort cases
unfolding texts_bytes
cases_take = counted_take text_at text_bytes IsShort text_takes

cases_again : (cases : List (List ℕ)) (left : List ℕ) → length cases < 2 ^ 32 → AllByRecursion IsShort cases → counted_at text_at (texts_bytes cases ++ left) ≡ Some (cases, left)
unfolding texts_bytes
cases_again = counted_again text_at text_bytes IsShort text_again

-- the fields after the delimiter
abbrev after_cases : BenchJob → List ℕ
after_cases job = text_bytes job.runner_cfg ++ (text_bytes job.results ++ all_built_bytes job.built)

abbrev after_magic_bytes : BenchJob → List ℕ
after_magic_bytes job = text_bytes job.library ++ (text_bytes job.bench ++ (text_bytes job.architecture ++ (texts_bytes job.cases ++ after_cases job)))

-- the job with the fields that were read, and with the built files that the rest of the bytes spell
abbrev with_built_files : (library bench architecture : List ℕ) (cases : List (List ℕ)) (runner_cfg results : List ℕ) → List ℕ → Option BenchJob
with_built_files library bench architecture cases runner_cfg results bytes =
    all_built_at bytes >>= λ built. cond (eqb (length built.1) 0) (Some (record { library = library; bench = bench; architecture = architecture; cases = cases; runner_cfg = runner_cfg; results = results; built = built.0 })) None

abbrev with_texts : (library bench architecture : List ℕ) (cases : List (List ℕ)) → List ℕ → Option BenchJob
with_texts library bench architecture cases bytes =
    text_at bytes >>= λ runner_cfg. text_at runner_cfg.1 >>= λ results. with_built_files library bench architecture cases runner_cfg.0 results.0 results.1

-- the last three parts, of a job whose other parts are known to be short
tail_takes : (library bench architecture : List ℕ) (cases : List (List ℕ)) (bytes : List ℕ) (job : BenchJob) → AreBytes bytes → IsShort library → IsShort bench → IsShort architecture
    → length cases < 2 ^ 32 → AllByRecursion IsShort cases → with_texts library bench architecture cases bytes ≡ Some job
    → IsBenchJob job × (bytes ≡ after_cases job) × (job.library ≡ library) × (job.bench ≡ bench) × (job.architecture ≡ architecture) × (job.cases ≡ cases)
tail_takes library bench architecture cases bytes job fits l b a few short e =
    let f = bind_some (text_at bytes) (λ runner_cfg. text_at runner_cfg.1 >>= λ results. with_built_files library bench architecture cases runner_cfg.0 results.0 results.1) job e in
    let g = bind_some (text_at f.0.1) (λ results. with_built_files library bench architecture cases f.0.0 results.0 results.1) job f.2 in
    let h = bind_some (all_built_at g.0.1) (λ built. cond (eqb (length built.1) 0) (Some (record { library = library; bench = bench; architecture = architecture; cases = cases; runner_cfg = f.0.0; results = g.0.0; built = built.0 })) None) job g.2 in
    let made : BenchJob = record { library = library; bench = bench; architecture = architecture; cases = cases; runner_cfg = f.0.0; results = g.0.0; built = h.0.0 } in
    let end = guard_ended (eqb (length h.0.1) 0) made job h.2 in
    let t0 = text_takes bytes f.0.0 f.0.1 fits f.1 in
    let t1 = text_takes f.0.1 g.0.0 g.0.1 t0.0.left_are_bytes g.1 in
    let t2 = all_takes g.0.1 h.0.0 h.0.1 t1.0.left_are_bytes h.1 in
    let e12 = Takes-then f.0.1 (text_bytes g.0.0) g.0.1 (all_built_bytes h.0.0) h.0.1 t1.0 t2.0 in
    let e02 = Takes-then bytes (text_bytes f.0.0) f.0.1 (text_bytes g.0.0 ++ all_built_bytes h.0.0) h.0.1 t0.0 e12 in
    let whole = ends_there bytes (after_cases made) h.0.1 e02 end.0 in
    let is : IsBenchJob made = record { library = l; bench = b; architecture = a; few = few; cases = by_index IsShort cases short; runner_cfg = t0.1; results = t1.1; built = t2.1 } in
    subst (λ (j : BenchJob). IsBenchJob j × (bytes ≡ after_cases j) × (j.library ≡ library) × (j.bench ≡ bench) × (j.architecture ≡ architecture) × (j.cases ≡ cases)) {x = made} end.1
    (is, whole, refl, refl, refl, refl)

fields_takes : (bytes : List ℕ) (job : BenchJob) → AreBytes bytes → bench_fields_at bytes ≡ Some job → IsBenchJob job × (bytes ≡ after_magic_bytes job)
unfolding bench_fields_at
fields_takes bytes job fits e =
    let a = bind_some (text_at bytes) (λ library. text_at library.1 >>= λ bench. text_at bench.1 >>= λ architecture. counted_at text_at architecture.1 >>= λ cases. with_texts library.0 bench.0 architecture.0 cases.0 cases.1) job e in
    let b = bind_some (text_at a.0.1) (λ bench. text_at bench.1 >>= λ architecture. counted_at text_at architecture.1 >>= λ cases. with_texts a.0.0 bench.0 architecture.0 cases.0 cases.1) job a.2 in
    let c = bind_some (text_at b.0.1) (λ architecture. counted_at text_at architecture.1 >>= λ cases. with_texts a.0.0 b.0.0 architecture.0 cases.0 cases.1) job b.2 in
    let d = bind_some (counted_at text_at c.0.1) (λ cases. with_texts a.0.0 b.0.0 c.0.0 cases.0 cases.1) job c.2 in
    let t0 = text_takes bytes a.0.0 a.0.1 fits a.1 in
    let t1 = text_takes a.0.1 b.0.0 b.0.1 t0.0.left_are_bytes b.1 in
    let t2 = text_takes b.0.1 c.0.0 c.0.1 t1.0.left_are_bytes c.1 in
    let t3 = cases_take c.0.1 d.0.0 d.0.1 t2.0.left_are_bytes d.1 in
    let rest = tail_takes a.0.0 b.0.0 c.0.0 d.0.0 d.0.1 job t3.0.left_are_bytes t0.1 t1.1 t2.1 t3.1 t3.2 d.2 in
    let parts : bytes ≡ text_bytes a.0.0 ++ (text_bytes b.0.0 ++ (text_bytes c.0.0 ++ (texts_bytes d.0.0 ++ d.0.1))) =
    t0.0.parts ∙ ap (λ (l : List ℕ). text_bytes a.0.0 ++ l) (t1.0.parts ∙ ap (λ (l : List ℕ). text_bytes b.0.0 ++ l) (t2.0.parts ∙ ap (λ (l : List ℕ). text_bytes c.0.0 ++ l) t3.0.parts)) in
    let library : text_bytes a.0.0 ≡ text_bytes job.library = ap text_bytes (sym rest.2) in
    let bench : text_bytes b.0.0 ≡ text_bytes job.bench = ap text_bytes (sym rest.3) in
    let architecture : text_bytes c.0.0 ≡ text_bytes job.architecture = ap text_bytes (sym rest.4) in
    let cases : texts_bytes d.0.0 ≡ texts_bytes job.cases = ap texts_bytes (sym rest.5) in (
      rest.0,
      parts
          ∙ ap (λ (l : List ℕ). l ++ (text_bytes b.0.0 ++ (text_bytes c.0.0 ++ (texts_bytes d.0.0 ++ d.0.1)))) library
          ∙ ap (λ (l : List ℕ). text_bytes job.library ++ (l ++ (text_bytes c.0.0 ++ (texts_bytes d.0.0 ++ d.0.1)))) bench
          ∙ ap (λ (l : List ℕ). text_bytes job.library ++ (text_bytes job.bench ++ (l ++ (texts_bytes d.0.0 ++ d.0.1)))) architecture
          ∙ ap (λ (l : List ℕ). text_bytes job.library ++ (text_bytes job.bench ++ (text_bytes job.architecture ++ (l ++ d.0.1)))) cases
          ∙ ap (λ (l : List ℕ). text_bytes job.library ++ (text_bytes job.bench ++ (text_bytes job.architecture ++ (texts_bytes job.cases ++ l)))) rest.1,
    )

fields_again : (job : BenchJob) → IsBenchJob job → bench_fields_at (after_magic_bytes job) ≡ Some job
unfolding bench_fields_at
fields_again job is =
    let last : all_built_at (all_built_bytes job.built) ≡ Some (job.built, []) = ap all_built_at (sym (append-nil (all_built_bytes job.built))) ∙ all_again job.built [] is.built in
    rw (
      text_again job.library (text_bytes job.bench ++ (text_bytes job.architecture ++ (texts_bytes job.cases ++ after_cases job))) is.library,
      text_again job.bench (text_bytes job.architecture ++ (texts_bytes job.cases ++ after_cases job)) is.bench,
      text_again job.architecture (texts_bytes job.cases ++ after_cases job) is.architecture,
      cases_again job.cases (after_cases job) is.few (by_recursion IsShort job.cases is.cases),
      text_again job.runner_cfg (text_bytes job.results ++ all_built_bytes job.built) is.runner_cfg,
      text_again job.results (all_built_bytes job.built) is.results,
      last,
    ) refl

pub bench_takes : (bytes : List ℕ) (job : BenchJob) → AreBytes bytes → bench_at bytes ≡ Some job → IsBenchJob job × (bytes ≡ bench_input job)
unfolding bench_at bench_input
bench_takes = behind_takes bench_fields_at after_magic_bytes IsBenchJob (codes "VRB1") fields_takes

pub bench_again : (job : BenchJob) → IsBenchJob job → bench_at (bench_input job) ≡ Some job
unfolding bench_at bench_input
bench_again = behind_again bench_fields_at after_magic_bytes IsBenchJob (codes "VRB1") fields_again
