-- What the simulator that is part of the program answers, for each input.
use Rattle.std.specs.Prelude.{ℕ, Bool, ◌&&◌, if◌then◌else◌, List, [], ◌∷◌, ◌++◌, codes}
use Rattle.std.specs.List.{list_any}
use Rattle.std.specs.Option.{option_map_or}
use Rattle.std.specs.Str.{bytes_eq}
use Rattle.base.specs.declared.child.Exit.{Exit}
use Rattle.base.specs.declared.child.MaybeText.TheVariants.{Given}
use Rattle.base.specs.declared.graph.BuiltFile.{BuiltFile}
use Rattle.testbench_runs.specs.declared.jobs.BenchJob.{BenchJob}
use Rattle.child_test_request.specs.Reading.{bench_at}
use Rattle.child_lines.specs.Ends.{bad_request}
use Rattle.child_lines.specs.Lines.{in_library, lines}

-- a line is of the entity of this name
unfoldable pub is_entity_line : List ℕ → List ℕ → Bool
is_entity_line name line = bytes_eq line (codes "unit entity " ++ name)

-- a file is of the library of a bench, and has the bench
abbrev pub is_bench_file : BenchJob → BuiltFile → Bool
is_bench_file job file = in_library job.library file && list_any (is_entity_line job.bench) (lines file.artefact)

-- one of the files is of the library of the bench, and has it
abbrev pub has_bench : BenchJob → Bool
has_bench job = list_any (is_bench_file job) job.built

-- a line says that the case of this full name fails
unfoldable pub is_failure : List ℕ → List ℕ → Bool
is_failure name line = bytes_eq line (codes "script fail " ++ name)

-- one of the files, of any library, says that the case of this full name fails
abbrev pub fails : List BuiltFile → List ℕ → Bool
fails files name = list_any (λ file. list_any (is_failure name) (lines file.artefact)) files

-- the full name of a case: the library, the bench and the case, with a dot between them
unfoldable pub full_name : BenchJob → List ℕ → List ℕ
full_name job name = job.library ++ (codes "." ++ (job.bench ++ (codes "." ++ name)))

-- the line that starts a case in the results
unfoldable pub start_line : List ℕ → List ℕ
start_line name = codes "test_start:" ++ (name ++ 10 ∷ [])

-- the line that ends the results: all cases are done
unfoldable pub done_line : List ℕ
done_line = codes "test_suite_done" ++ 10 ∷ []

-- an end with this code, output and results
abbrev pub with_results : ℕ → List ℕ → List ℕ → Exit
with_results code output results = record { code = code; output = output; results = Given results }

-- a case of this full name has failed
unfoldable pub failed_case : List ℕ → List ℕ → Exit
failed_case name results = with_results 1 (codes "failed " ++ (name ++ 10 ∷ [])) results

-- all cases have passed: code 0, no output, and the results with their last line
unfoldable pub all_done : List ℕ → Exit
all_done results = with_results 0 [] (results ++ done_line)

-- no file has the bench: code 1, a line that says so, and empty results
unfoldable pub no_bench : Exit
no_bench = with_results 1 (codes "no bench" ++ 10 ∷ []) []

-- the cases from one on, in order, after these results: the first that fails is the last that is started
unfoldable pub cases_from : BenchJob → List ℕ → List (List ℕ) → Exit
cases_from job results [] = all_done results
cases_from job results (name ∷ names) = if fails job.built (full_name job name) then failed_case (full_name job name) (results ++ start_line name) else cases_from job (results ++ start_line name) names

-- the answer for a bench without named cases: its one case is `all`, and no start line is written
unfoldable pub whole_bench : BenchJob → Exit
whole_bench job = if fails job.built (full_name job (codes "all")) then failed_case (full_name job (codes "all")) [] else all_done []

-- the answer to a job whose bench exists, for these cases; the list is empty for a bench without named cases
abbrev pub cases_of : BenchJob → List (List ℕ) → Exit
cases_of job [] = whole_bench job
cases_of job (name ∷ names) = cases_from job [] (name ∷ names)

-- the answer to a bench job
unfoldable pub bench_answer : BenchJob → Exit
bench_answer job = if has_bench job then cases_of job job.cases else no_bench

-- the answer to an input
unfoldable pub simulation : List ℕ → Exit
simulation input = option_map_or bench_answer (bench_at input) bad_request
