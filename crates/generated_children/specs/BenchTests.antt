-- Which tests the generated project has: those of its bench, by the position of the bench's file.
use Rattle.std.specs.Prelude.{◌≡◌, ◌≢◌, ℕ, false, List, [], ◌∷◌, AllPairs, map, slice_get, codes, Some}
use Rattle.base.specs.declared.project.ProjectFile.{ProjectFile}
use Rattle.base_outcomes.specs.declared.bench.Bench.{Bench}
use Rattle.base_outcomes.specs.declared.bench.TestCase.{TestCase}
use Rattle.testbench_scan.specs.Benches.{ScannedFiles}
use Rattle.testbench_select.specs.Patterns.{pattern_parts_of}
use Rattle.testbench_select.specs.Selection.{selection}
use Rattle.testbench_runs.specs.declared.runs.TestRun.{TestRun}
use Rattle.testbench_runs.specs.Runs.{test_runs}
use Rattle.generated_sources.specs.NumberedFiles.{numbered_file, numbered_scan, numbered_bytes}
use Rattle.generated_sources.specs.BenchScans.{bench_entity_name}
use Rattle.generated_sources.specs.PackageLinks.{used_library}
use Rattle.generated_children.specs.TestedBench.{first_case, second_case}

-- the two cases, each where its name is between quotes
abbrev pub bench_cases : (position : ℕ) → List TestCase
bench_cases position =
    record { name = first_case; file = position; at = 120; length = 3 } ∷ record { name = second_case; file = position; at = 139; length = 3 } ∷ []

-- the bench, whose cases run one by one
abbrev pub generated_bench : (position : ℕ) → Bench
generated_bench position = record { library = used_library; name = bench_entity_name; architecture = 97 ∷ []; file = position; cases = bench_cases position; whole = false; same_sim = false }

-- the files of these numbers, in this order, with their texts and scans, where the package of a number is edited
abbrev pub numbered_sources : (command : List (List ℕ)) → (edited : ℕ) → (numbers : List ℕ) → ScannedFiles
numbered_sources command edited numbers = record { files = map (numbered_file command) numbers; texts = map (numbered_bytes edited) numbers; scans = map (numbered_scan edited) numbers }

-- distinct numbers, with the bench's number 0 at this position
pub record HasBenchAt (numbers : List ℕ) (position : ℕ) : Type 0 where
  pub distinct : AllPairs (λ number other. number ≢ other) numbers
  pub there : slice_get numbers position ≡ Some 0

-- the runs of all tests, which the pattern `*` selects
abbrev pub runs_of_all : List ProjectFile → List Bench → List TestRun
runs_of_all files tests = test_runs files (selection (map pattern_parts_of (codes "*" ∷ [])) tests)
