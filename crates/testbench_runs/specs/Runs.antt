-- The runs of tests: which runs benches have, and the names and paths of each.
use Rattle.std.specs.Prelude.{◌≡◌, ℕ, ◌+◌, ◌/◌, ◌%◌, ◌≤◌, nat_lt, Bool, true, ◌||◌, ◌==◌, if◌then◌else◌, List, [], ◌∷◌, ◌++◌, codes, length, map, slice_get, slice_index_or, sum_by}
use Rattle.std.specs.List.{flat_map}
use Rattle.std.specs.Option.{option_map_or}
use Rattle.std.specs.Char.{is_ascii_alphanumeric}
use Rattle.base.specs.declared.project.ProjectFile.{ProjectFile}
use Rattle.base.specs.declared.limits.TheConstants.{CASE_LIMIT, PATH_LIMIT, TEXT_LIMIT}
use Rattle.base_outcomes.specs.declared.bench.Bench.{Bench}
use Rattle.testbench_runs.specs.declared.runs.TestRun.{TestRun}

-- ## Which runs there are

-- the path of the file at a position of a project
abbrev pub path_at : List ProjectFile → ℕ → List ℕ
path_at files position = option_map_or (λ file. file.name.path) (slice_get files position) []

-- a run of some cases of a bench
abbrev pub run_with : List ProjectFile → Bench → List (List ℕ) → TestRun
run_with files bench cases = record { library = bench.library; bench = bench.name; architecture = bench.architecture; cases = cases; whole = bench.whole; same_sim = bench.same_sim; path = path_at files bench.file }

-- The runs of a bench: one without cases where it names none itself, one with all its cases where these run in one
-- simulation, and else one for each case.
unfoldable pub bench_runs : List ProjectFile → Bench → List TestRun
bench_runs files bench =
    if bench.whole then run_with files bench [] ∷ []
    else (if bench.same_sim then run_with files bench (map (λ test. test.name) bench.cases) ∷ [] else map (λ test. run_with files bench (test.name ∷ [])) bench.cases)

-- the runs of benches, in order
abbrev pub test_runs : List ProjectFile → List Bench → List TestRun
test_runs files benches = flat_map (bench_runs files) benches

-- how long the texts of a run are
pub record FitsRun (run : TestRun) : Type 0 where
  pub library : length run.library ≤ TEXT_LIMIT
  pub bench : length run.bench ≤ TEXT_LIMIT
  pub architecture : length run.architecture ≤ TEXT_LIMIT
  pub few : length run.cases ≤ CASE_LIMIT
  pub cases : sum_by (λ name. length name) run.cases ≤ TEXT_LIMIT
  pub path : length run.path ≤ PATH_LIMIT

-- how long the texts of a bench are, and the path of its file
pub record FitsBench (files : List ProjectFile) (bench : Bench) : Type 0 where
  pub library : length bench.library ≤ TEXT_LIMIT
  pub name : length bench.name ≤ TEXT_LIMIT
  pub architecture : length bench.architecture ≤ TEXT_LIMIT
  pub few : length bench.cases ≤ CASE_LIMIT
  pub cases : sum_by (λ test. length test.name) bench.cases ≤ TEXT_LIMIT
  pub path : length (path_at files bench.file) ≤ PATH_LIMIT

-- a bench that names no case itself has the one case `all`
abbrev pub HasWholeCase : Bench → Type 0
HasWholeCase bench = bench.whole ≡ true → map (λ test. test.name) bench.cases ≡ codes "all" ∷ []

-- ## Names

-- the library and the bench of a run, with a dot between them
abbrev pub name_of_bench : TestRun → List ℕ
name_of_bench run = run.library ++ (codes "." ++ run.bench)

-- the full name of a case of a run: the library, the bench and the case, with a dot between them
abbrev pub name_of_case : TestRun → List ℕ → List ℕ
name_of_case run name = run.library ++ (codes "." ++ (run.bench ++ (codes "." ++ name)))

-- the cases of a run; a bench that names none itself has the one case `all`
abbrev pub counted_cases : TestRun → List (List ℕ)
counted_cases run = if run.whole then codes "all" ∷ [] else run.cases

-- the full names of the cases of a run, in order
abbrev pub case_names : TestRun → List (List ℕ)
case_names run = map (name_of_case run) (counted_cases run)

-- the name of a run: that of its bench where all of this runs at once, and else the full name of its one case
unfoldable pub run_name : TestRun → List ℕ
run_name run = if run.same_sim || run.whole then name_of_bench run else name_of_case run (slice_index_or run.cases 0 [])

-- ## Paths

-- a letter, a digit, `_`, `-` or `.`
abbrev pub is_name_byte : ℕ → Bool
is_name_byte byte = is_ascii_alphanumeric byte || byte == 95 || byte == 45 || byte == 46

-- a hexadecimal digit, by its worth: `0` to `9`, and then `a` to `f`
abbrev pub hex_digit : ℕ → ℕ
hex_digit worth = if nat_lt worth 10 then 48 + worth else 87 + worth

-- a byte in the name of a folder: unchanged if it is a letter, a digit, `_`, `-` or `.`; otherwise `=` and two hexadecimal
-- digits
unfoldable pub escaped_byte : ℕ → List ℕ
escaped_byte byte = if is_name_byte byte then byte ∷ [] else 61 ∷ hex_digit (byte / 16) ∷ hex_digit (byte % 16) ∷ []

-- the name of a folder in which each byte but letters, digits, `_`, `-` and `.` is written as `=` and two hexadecimal digits
abbrev pub escaped : List ℕ → List ℕ
escaped name = flat_map escaped_byte name

-- the path of the folder of a run, with a slash at its end
unfoldable pub output_path : TestRun → List ℕ
output_path run = codes "vunit_out/tests/" ++ (escaped (run_name run) ++ codes "/")

-- where the simulation of a run leaves its results
unfoldable pub results_path : TestRun → List ℕ
results_path run = output_path run ++ codes "vunit_results"
