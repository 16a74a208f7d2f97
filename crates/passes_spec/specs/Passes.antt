-- Passes: runs of tests that passed, with the simulator and the files that they ran over, and what they printed. Which are true, and
-- which is the last of the same tests.
use Rattle.std.specs.Prelude.{◌≡◌, ◌⊎◌, ℕ, Bool, true, ◌&&◌, List, [], ◌∷◌, take, Option, Some, None, if◌then◌else◌}
use Rattle.std.specs.List.{list_any}
use Rattle.std.specs.Option.{option_or}
use Rattle.std.specs.Str.{bytes_eq}
use Rattle.std.specs.Cmp.Lexicographic.{pointwise}
use Rattle.base.specs.declared.child.Request.{Request}
use Rattle.base.specs.declared.child.Exit.{Exit}
use Rattle.base.specs.declared.graph.BuiltFile.{BuiltFile}
use Rattle.testbench_runs.specs.declared.runs.TestRun.{TestRun}
use Rattle.testbench_runs.specs.declared.ends.TheConstants.{SHOWN_LIMIT}
use Rattle.testbench_runs.specs.BenchJobs.{bench_request}
use Rattle.testbench_runs.specs.Verdicts.{is_passed}

-- A pass: a run of tests, the words of the simulator, the built files in compile order, and what the run printed.
pub record Pass : Type 0 where
  pub run : TestRun
  pub simulator : List (List ℕ)
  pub built : List BuiltFile
  pub output : List ℕ

-- what the simulator was asked
abbrev pub request_of_pass : Pass → Request
request_of_pass pass = bench_request pass.run pass.simulator pass.built

-- A pass is true: asked the same, the simulator lets all cases of the run pass, and prints this.
pub record IsTruePass (answer : Request → Exit) (pass : Pass) : Type 0 where
  pub passes : is_passed pass.run (answer (request_of_pass pass)) ≡ true
  pub prints : pass.output ≡ take SHOWN_LIMIT (answer (request_of_pass pass)).output

-- the pass that is recorded of a run that ended with an exit
abbrev pub pass_of_end : TestRun → List (List ℕ) → List BuiltFile → Exit → Pass
pass_of_end run simulator built exit = record { run = run; simulator = simulator; built = built; output = take SHOWN_LIMIT exit.output }

-- ## The same tests

-- A pass is of the same tests as a run with a simulator: library, bench, cases and the simulator's words are equal.
abbrev pub is_of_tests : TestRun → List (List ℕ) → Pass → Bool
is_of_tests run simulator pass = bytes_eq pass.run.library run.library && (bytes_eq pass.run.bench run.bench && (pointwise bytes_eq pass.run.cases run.cases && pointwise bytes_eq pass.simulator simulator))

-- the last pass of the same tests
unfoldable pub last_pass : TestRun → List (List ℕ) → List Pass → Option Pass
last_pass run simulator [] = None
last_pass run simulator (first ∷ rest) = option_or (last_pass run simulator rest) (if is_of_tests run simulator first then Some first else None)

-- a later pass is of the same tests
abbrev pub is_superseded : List Pass → Pass → Bool
is_superseded later pass = list_any (is_of_tests pass.run pass.simulator) later

-- the last pass of the same tests alone, in the order in which they came
unfoldable pub last_passes : List Pass → List Pass
last_passes [] = []
last_passes (first ∷ rest) = if is_superseded rest first then last_passes rest else first ∷ last_passes rest

-- all passes, or the last of the same tests alone
abbrev pub IsAllOrLast : List Pass → List Pass → Type 0
IsAllOrLast before now = (now ≡ before) ⊎ (now ≡ last_passes before)
