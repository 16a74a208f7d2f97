-- How long the texts of a bench job are, for a run of the sizes of one.
use Rattle.std.proofs.Common.{◌≡◌, ℕ, zero, suc, ◌+◌, ◌*◌, ◌^◌, ◌<◌, ◌≤◌, Bool, ◌||◌, cond, eqb, List, [], ◌∷◌, ◌++◌, length, reverse, refl, ap, ◌∙◌, arith, inl, inr}
use Rattle.std.specs.Prelude.{codes, All, slice_index_or, sum_by}
use Rattle.std.specs.List.{flat_map, join_by}
use Rattle.std.proofs.lemmas.Bool.{cases_Bool}
use Rattle.std.proofs.lemmas.List.{length-append, length-reverse}
use Rattle.std.proofs.lemmas.List.Concat.{flat_map-cons}
use Rattle.std.proofs.lemmas.List.Sums.{sum_by-cons}
use Rattle.base.specs.declared.graph.BuiltFile.{BuiltFile}
use Rattle.base.specs.Graphs.{IsBuilt}
use Rattle.testbench_runs.specs.declared.runs.TestRun.{TestRun}
use Rattle.testbench_runs.specs.Runs.{FitsRun, escaped, escaped_byte, is_name_byte, name_of_bench, name_of_case, output_path, results_path, run_name}
use Rattle.testbench_runs.specs.Configuration.{configuration, doubled, enabled_cases, folder_of, from_slash, is_comma, is_delimiter, pair, pairs_of}
use Rattle.testbench_runs.specs.BenchJobs.{IsBenchJob, bench_job}

abbrev total : List (List ℕ) → ℕ
total names = sum_by (λ name. length name) names

-- ## Bytes that are doubled or escaped

doubled_length : (test : ℕ → Bool) (bytes : List ℕ) → length (doubled test bytes) ≤ 2 * length bytes
doubled_length test [] = omega arith
doubled_length test (byte ∷ bytes) =
    let one : ℕ → List ℕ = λ b. cond (test b) (b ∷ b ∷ []) (b ∷ []) in
    let whole : length (doubled test (byte ∷ bytes)) ≡ length (one byte) + length (doubled test bytes) = ap length (flat_map-cons one byte bytes) ∙ length-append (one byte) (doubled test bytes) in
    let few : length (one byte) ≤ 2 = elim (cases_Bool (test byte)) [
      | inl t ↦ rw t (omega arith)
      | inr f ↦ rw f (omega arith)
    ] in
    omega (arith, whole, few, doubled_length test bytes)

one_escaped : (byte : ℕ) → length (escaped_byte byte) ≤ 3
unfolding escaped_byte
one_escaped byte =
    elim (cases_Bool (is_name_byte byte)) [
      | inl t ↦ rw t (omega arith)
      | inr f ↦ rw f (omega arith)
    ]

escaped_length : (name : List ℕ) → length (escaped name) ≤ 3 * length name
escaped_length [] = omega arith
escaped_length (byte ∷ name) =
    let whole : length (escaped (byte ∷ name)) ≡ length (escaped_byte byte) + length (escaped name) = ap length (flat_map-cons escaped_byte byte name) ∙ length-append (escaped_byte byte) (escaped name) in
    omega (arith, whole, one_escaped byte, escaped_length name)

-- ## Names and paths

first_length : (names : List (List ℕ)) → length (slice_index_or names 0 []) ≤ total names
first_length [] = omega arith
first_length (name ∷ names) = omega (arith, sum_by-cons (λ name. length name) name names)

name_length : (run : TestRun) → length (run_name run) ≤ length run.library + length run.bench + total run.cases + 2
unfolding run_name
name_length run =
    let bench : length (name_of_bench run) ≡ length run.library + suc (length run.bench) = length-append run.library (codes "." ++ run.bench) in
    let name : List ℕ = slice_index_or run.cases 0 [] in
    let case : length (name_of_case run name) ≡ length run.library + suc (length run.bench + suc (length name)) =
    length-append run.library (codes "." ++ (run.bench ++ (codes "." ++ name))) ∙ ap (λ n. length run.library + suc n) (length-append run.bench (codes "." ++ name)) in
    elim (cases_Bool (run.same_sim || run.whole)) [
      | inl t ↦ rw t (omega (arith, bench))
      | inr f ↦ rw f (omega (arith, case, first_length run.cases))
    ]

output_length : (run : TestRun) → length (output_path run) ≤ 17 + 3 * (length run.library + length run.bench + total run.cases + 2)
unfolding output_path
output_length run =
    let prefix : length (codes "vunit_out/tests/") ≡ 16 = refl in
    let parts : length (codes "vunit_out/tests/" ++ (escaped (run_name run) ++ codes "/")) ≡ length (codes "vunit_out/tests/") + (length (escaped (run_name run)) + 1) =
    length-append (codes "vunit_out/tests/") (escaped (run_name run) ++ codes "/") ∙ ap (λ n. length (codes "vunit_out/tests/") + n) (length-append (escaped (run_name run)) (codes "/")) in
    omega (arith, prefix, parts, escaped_length (run_name run), name_length run)

results_length : (run : TestRun) → length (results_path run) ≤ 30 + 3 * (length run.library + length run.bench + total run.cases + 2)
unfolding results_path
results_length run =
    let suffix : length (codes "vunit_results") ≡ 13 = refl in
    let parts : length (output_path run ++ codes "vunit_results") ≡ length (output_path run) + length (codes "vunit_results") = length-append (output_path run) (codes "vunit_results") in
    omega (arith, suffix, parts, output_length run)

from_slash_length : (bytes : List ℕ) → length (from_slash bytes) ≤ length bytes
from_slash_length [] = omega arith
from_slash_length (byte ∷ bytes) =
    elim (cases_Bool (eqb byte 47)) [
      | inl t ↦ rw t (omega arith)
      | inr f ↦ rw f (omega (arith, from_slash_length bytes))
    ]

folder_length : (path : List ℕ) → length (folder_of path) ≤ length path
folder_length path = omega (arith, length-reverse (from_slash (reverse path)), from_slash_length (reverse path), length-reverse path)

-- ## The configuration

others_length : (names : List (List ℕ)) → length (flat_map (λ name. codes "," ++ doubled is_comma name) names) ≤ length names + 2 * total names
others_length [] = omega arith
others_length (name ∷ names) =
    let one : List ℕ → List ℕ = λ n. codes "," ++ doubled is_comma n in
    let whole : length (flat_map one (name ∷ names)) ≡ length (one name) + length (flat_map one names) = ap length (flat_map-cons one name names) ∙ length-append (one name) (flat_map one names) in
    omega (arith, whole, doubled_length is_comma name, others_length names, sum_by-cons (λ name. length name) name names)

enabled_length : (names : List (List ℕ)) → length (enabled_cases names) ≤ length names + 2 * total names
enabled_length [] = omega arith
enabled_length (name ∷ names) =
    let whole : length (enabled_cases (name ∷ names)) ≡ length (doubled is_comma name) + length (flat_map (λ n. codes "," ++ doubled is_comma n) names) =
    length-append (doubled is_comma name) (flat_map (λ n. codes "," ++ doubled is_comma n) names) in
    omega (arith, whole, doubled_length is_comma name, others_length names, sum_by-cons (λ name. length name) name names)

pair_length : (key value : List ℕ) → length (pair key value) ≤ length key + 3 + 2 * length value
pair_length key value =
    let whole : length (pair key value) ≡ length key + suc (suc (suc (length (doubled is_delimiter value)))) = length-append key (codes " : " ++ doubled is_delimiter value) in
    omega (arith, whole, doubled_length is_delimiter value)

next_length : (pairs : List (List ℕ)) → length (flat_map (λ p. codes "," ++ p) pairs) ≡ length pairs + total pairs
next_length [] = refl
next_length (first ∷ pairs) =
    let one : List ℕ → List ℕ = λ p. codes "," ++ p in
    let whole : length (flat_map one (first ∷ pairs)) ≡ length (one first) + length (flat_map one pairs) = ap length (flat_map-cons one first pairs) ∙ length-append (one first) (flat_map one pairs) in
    omega (arith, whole, next_length pairs, sum_by-cons (λ p. length p) first pairs)

joined_length : (pairs : List (List ℕ)) → length (join_by (λ p. p) (codes ",") pairs) ≤ length pairs + total pairs
joined_length [] = omega arith
joined_length (first ∷ pairs) =
    let whole : length (join_by (λ p. p) (codes ",") (first ∷ pairs)) ≡ length first + length (flat_map (λ p. codes "," ++ p) pairs) = length-append first (flat_map (λ p. codes "," ++ p) pairs) in
    omega (arith, whole, next_length pairs, sum_by-cons (λ p. length p) first pairs)

configuration_length : (run : TestRun) → length (configuration run) ≤ 150 + 2 * length run.cases + 4 * total run.cases + 2 * length (output_path run) + 2 * length run.path
unfolding configuration pairs_of
configuration_length run =
    let p1 : List ℕ = pair (codes "active python runner") (codes "true") in
    let p2 : List ℕ = pair (codes "enabled_test_cases") (enabled_cases run.cases) in
    let p3 : List ℕ = pair (codes "output path") (output_path run) in
    let p4 : List ℕ = pair (codes "tb path") (folder_of run.path) in
    let p5 : List ℕ = pair (codes "use_color") (codes "false") in
    let first : length p1 ≤ 31 = pair_length (codes "active python runner") (codes "true") in
    let second : length p2 ≤ 21 + 2 * length (enabled_cases run.cases) = pair_length (codes "enabled_test_cases") (enabled_cases run.cases) in
    let third : length p3 ≤ 14 + 2 * length (output_path run) = pair_length (codes "output path") (output_path run) in
    let fourth : length p4 ≤ 10 + 2 * length (folder_of run.path) = pair_length (codes "tb path") (folder_of run.path) in
    let fifth : length p5 ≤ 22 = pair_length (codes "use_color") (codes "false") in
    let all : length (configuration run) ≤ 5 + (0 + length p1 + length p2 + length p3 + length p4 + length p5) = joined_length (pairs_of run) in
    omega (arith, all, first, second, third, fourth, fifth, enabled_length run.cases, folder_length run.path)

-- ## A job

short_cases : (names : List (List ℕ)) → total names < 2 ^ 32 → All (λ name. length name < 2 ^ 32) names
short_cases [] small k d lt = absurd (omega arith)
short_cases (name ∷ names) small zero d lt = omega (arith, small, sum_by-cons (λ name. length name) name names)
short_cases (name ∷ names) small (suc k) d lt = short_cases names (omega (arith, small, sum_by-cons (λ name. length name) name names)) k d (omega (arith, lt))

pub configuration_short : (run : TestRun) → FitsRun run → length (configuration run) < 2 ^ 32
configuration_short run fits = omega (arith, configuration_length run, output_length run, fits.library, fits.bench, fits.few, fits.cases, fits.path)

pub results_short : (run : TestRun) → FitsRun run → length (results_path run) < 2 ^ 32
results_short run fits = omega (arith, results_length run, fits.library, fits.bench, fits.cases)

pub cases_short : (run : TestRun) → FitsRun run → All (λ name. length name < 2 ^ 32) run.cases
cases_short run fits = short_cases run.cases (omega (arith, fits.cases))

-- the bench job of a run within its limits is within the limits of a job
pub run_is_job : (run : TestRun) (built : List BuiltFile) → FitsRun run → IsBuilt built → IsBenchJob (bench_job run built)
run_is_job run built fits is = record {
  library = omega (arith, fits.library);
  bench = omega (arith, fits.bench);
  architecture = omega (arith, fits.architecture);
  few = omega (arith, fits.few);
  cases = cases_short run fits;
  runner_cfg = configuration_short run fits;
  results = results_short run fits;
  built = is;
}
