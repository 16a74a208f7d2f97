-- The text of runs of tests. Each line ends with a line feed.
use Rattle.std.specs.Prelude.{ℕ, Bool, true, false, not, ◌&&◌, ◌||◌, ◌==◌, if◌then◌else◌, List, [], ◌∷◌, ◌++◌, codes, zip}
use Rattle.std.specs.Fmt.{decimal}
use Rattle.std.specs.List.{flat_map}
use Rattle.report.specs.Texts.{shown}
use Rattle.testbench_runs.specs.declared.ends.RunEnd.{RunEnd}
use Rattle.testbench_runs.specs.declared.ends.Verdict.{Verdict}
use Rattle.testbench_runs.specs.declared.ends.Verdict.TheVariants.{Passed, Failed, Skipped}
use Rattle.testbench_runs.specs.declared.ends.TheConstants.{SHOWN_LIMIT}
use Rattle.report.specs.declared.tally.Tally.{Tally}
use Rattle.report.specs.Counts.{all_verdicts, has_run_passed, have_all_passed, tally}

-- the word for a verdict, with a space after it
unfoldable pub verdict_word : Verdict → List ℕ
verdict_word Passed = codes "pass "
verdict_word Failed = codes "fail "
verdict_word Skipped = codes "skip "

-- the line of a case: its verdict, and its full name
abbrev pub case_line : List ℕ → Verdict → List ℕ
case_line name verdict = verdict_word verdict ++ (name ++ 10 ∷ [])

-- the lines of cases that have a verdict, in order
abbrev pub case_lines : List (List ℕ) → List Verdict → List ℕ
case_lines names verdicts = flat_map (λ both. case_line both.0 both.1) (zip names verdicts)

-- What a run printed is shown: never where the words are quiet, and else where they are verbose, or where not all of its cases
-- have passed.
abbrev pub shows_output : Bool → Bool → RunEnd → Bool
shows_output verbose quiet run = not quiet && (verbose || not (has_run_passed run))

-- the text of a run: its output, if that is shown, and the lines of its cases
abbrev pub run_text : Bool → Bool → RunEnd → List ℕ
run_text verbose quiet run = (if shows_output verbose quiet run then shown SHOWN_LIMIT run.output else []) ++ case_lines run.names run.verdicts

-- how many cases of all have a verdict
unfoldable pub count_line : Verdict → ℕ → ℕ → List ℕ
count_line verdict count total = verdict_word verdict ++ (decimal count ++ (codes " of " ++ (decimal total ++ 10 ∷ [])))

-- the line before the counts
unfoldable pub summary_line : List ℕ
summary_line = codes "==== Summary" ++ 10 ∷ []

-- the last line
unfoldable pub verdict_line : Bool → List ℕ
verdict_line true = codes "All passed!" ++ 10 ∷ []
verdict_line false = codes "Some failed!" ++ 10 ∷ []

-- how many cases there are of each verdict
abbrev pub summary : Tally → Bool → List ℕ
summary counts all = summary_line ++ (count_line Passed counts.passed counts.total ++ (count_line Failed counts.failed counts.total ++ (count_line Skipped counts.skipped counts.total ++ verdict_line all)))

-- what is put where no run has a case
unfoldable pub no_tests : List ℕ
no_tests = codes "No tests were run!" ++ 10 ∷ []

-- the text of runs that have cases: the text of each run, and the summary
abbrev pub runs_text : Bool → Bool → List RunEnd → List ℕ
runs_text verbose quiet runs = flat_map (run_text verbose quiet) runs ++ summary (tally (all_verdicts runs)) (have_all_passed runs)

-- the text of runs, which may have no case
abbrev pub test_text : Bool → Bool → List RunEnd → List ℕ
test_text verbose quiet runs = if (tally (all_verdicts runs)).total == 0 then no_tests else runs_text verbose quiet runs
