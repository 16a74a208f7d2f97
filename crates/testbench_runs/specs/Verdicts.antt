-- The verdicts of test cases, by the code with which a simulator ended and the results text that it left.
use Rattle.std.specs.Prelude.{◌≡◌, ℕ, Bool, true, false, not, ◌&&◌, ◌==◌, if◌then◌else◌, List, [], ◌∷◌, codes, filter, map, take, drop, Option, Some, None}
use Rattle.std.specs.List.{filter_map, last_or, list_all, list_any, slice_split}
use Rattle.std.specs.Option.{option_map_or}
use Rattle.std.specs.Str.{bytes_eq}
use Rattle.std.specs.Str.Lines.{strip_carriage_return}
use Rattle.base.specs.declared.child.Request.{Request}
use Rattle.base.specs.declared.child.Exit.{Exit}
use Rattle.base.specs.declared.child.MaybeText.{MaybeText}
use Rattle.base.specs.declared.child.MaybeText.TheVariants.{Nothing, Given}
use Rattle.testbench_runs.specs.declared.ends.Verdict.{Verdict}
use Rattle.testbench_runs.specs.declared.ends.Verdict.TheVariants.{Passed, Failed, Skipped}
use Rattle.testbench_runs.specs.declared.ends.RunEnd.{RunEnd}
use Rattle.testbench_runs.specs.declared.ends.TheConstants.{SHOWN_LIMIT}
use Rattle.testbench_runs.specs.declared.runs.TestRun.{TestRun}
use Rattle.base.specs.declared.graph.BuiltFile.{BuiltFile}
use Rattle.testbench_runs.specs.BenchJobs.{bench_request}
use Rattle.testbench_runs.specs.Runs.{case_names}

-- ## Lines

-- the lines of a results text: what is between line feeds, each without the one carriage return at its end
abbrev pub result_lines : List ℕ → List (List ℕ)
result_lines text = map strip_carriage_return (slice_split (λ byte. byte == 10) text)

-- the name that a line starts: what comes after `test_start:`
unfoldable pub started_name : List ℕ → Option (List ℕ)
started_name line = if bytes_eq (take 11 line) (codes "test_start:") then Some (drop 11 line) else None

-- the line that says that all is done
abbrev pub is_done_line : List ℕ → Bool
is_done_line line = bytes_eq line (codes "test_suite_done")

-- all is done: some line says so
abbrev pub says_done : List (List ℕ) → Bool
says_done lines = list_any is_done_line lines

-- ## Starts

-- a name is that of one of these cases
abbrev pub has_case : List (List ℕ) → List ℕ → Bool
has_case cases name = list_any (λ other. bytes_eq other name) cases

-- a set has just these names
abbrev pub HasAll : List (List ℕ) → List (List ℕ) → Type 0
HasAll set names = (name : List ℕ) → has_case set name ≡ has_case names name

-- the cases that lines start, in order; each other name is passed over
abbrev pub case_starts : List (List ℕ) → List (List ℕ) → List (List ℕ)
case_starts cases lines = filter (has_case cases) (filter_map started_name lines)

-- a case is the last that was started
abbrev pub is_last_start : List (List ℕ) → List ℕ → Bool
is_last_start starts name = option_map_or (λ last. bytes_eq last name) (last_or None starts) false

-- ## Verdicts

-- passed or failed, by whether the run ended well
abbrev pub passed_if : Bool → Verdict
passed_if true = Passed
passed_if false = Failed

-- the verdict of a case, by the starts in order, and by whether its run ended well
abbrev pub case_verdict : List (List ℕ) → Bool → List ℕ → Verdict
case_verdict starts ends_well name = if not (has_case starts name) then Skipped else (if is_last_start starts name then passed_if ends_well else Passed)

-- a run ended well: all is done, and the code is 0
abbrev pub ends_well : ℕ → List (List ℕ) → Bool
ends_well code lines = code == 0 && says_done lines

-- The verdicts of the cases of a run, in order, by its code and its results. A bench that names no case itself has one.
unfoldable pub verdicts : List (List ℕ) → Bool → ℕ → MaybeText → List Verdict
verdicts cases true code Nothing = Failed ∷ []
verdicts cases true code (Given text) = passed_if (ends_well code (result_lines text)) ∷ []
verdicts cases false code Nothing = map (λ name. Failed) cases
verdicts cases false code (Given text) = map (case_verdict (case_starts cases (result_lines text)) (ends_well code (result_lines text))) cases

-- the case has passed
abbrev pub is_passed_verdict : Verdict → Bool
is_passed_verdict Passed = true
is_passed_verdict Failed = false
is_passed_verdict Skipped = false

-- the verdicts of the cases of a run that ended so, in order
abbrev pub run_verdicts : TestRun → Exit → List Verdict
run_verdicts run exit = verdicts run.cases run.whole exit.code exit.results

-- all cases of a run have passed with an exit
abbrev pub is_passed : TestRun → Exit → Bool
is_passed run exit = list_all is_passed_verdict (run_verdicts run exit)

-- the result of a run that ended: its names, its verdicts, and the first 4,096 bytes of its output
abbrev pub ended_run : TestRun → Exit → RunEnd
ended_run run exit = record { names = case_names run; verdicts = run_verdicts run exit; output = take SHOWN_LIMIT exit.output }

-- the result of a run that was never started: each case is skipped, and there is no output
abbrev pub unstarted_run : TestRun → RunEnd
unstarted_run run = record { names = case_names run; verdicts = map (λ name. Skipped) (case_names run); output = [] }

-- the end of each run with a simulator over built files, if all are started
abbrev pub started_ends : (Request → Exit) → List (List ℕ) → List BuiltFile → List TestRun → List RunEnd
started_ends answer simulator built runs = map (λ run. ended_run run (answer (bench_request run simulator built))) runs
