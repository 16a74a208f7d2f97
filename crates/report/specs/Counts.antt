-- How many cases there are of each verdict, and what a run of tests answers.
use Rattle.std.specs.Prelude.{Bool, true, false, ◌||◌, if◌then◌else◌, List, length, count_by}
use Rattle.std.specs.List.{flat_map, list_all}
use Rattle.base_outcomes.specs.declared.outcome.Outcome.{Outcome}
use Rattle.base_outcomes.specs.declared.outcome.Outcome.TheVariants as outcome
use Rattle.testbench_runs.specs.declared.ends.RunEnd.{RunEnd}
use Rattle.testbench_runs.specs.declared.ends.Verdict.{Verdict}
use Rattle.testbench_runs.specs.declared.ends.Verdict.TheVariants.{Passed, Failed, Skipped}
use Rattle.testbench_runs.specs.Verdicts.{is_passed_verdict}
use Rattle.report.specs.declared.tally.Tally.{Tally}

-- the case has failed
abbrev pub is_failed_verdict : Verdict → Bool
is_failed_verdict Passed = false
is_failed_verdict Failed = true
is_failed_verdict Skipped = false

-- the case was never started
abbrev pub is_skipped_verdict : Verdict → Bool
is_skipped_verdict Passed = false
is_skipped_verdict Failed = false
is_skipped_verdict Skipped = true

-- the verdicts of the cases of all runs, in order
abbrev pub all_verdicts : List RunEnd → List Verdict
all_verdicts runs = flat_map (λ run. run.verdicts) runs

-- how many verdicts there are, and how many of each kind
abbrev pub tally : List Verdict → Tally
tally verdicts = record { total = length verdicts; passed = count_by is_passed_verdict verdicts; failed = count_by is_failed_verdict verdicts; skipped = count_by is_skipped_verdict verdicts }

-- all cases of a run have passed
abbrev pub has_run_passed : RunEnd → Bool
has_run_passed run = list_all is_passed_verdict run.verdicts

-- all cases of all runs have passed
abbrev pub have_all_passed : List RunEnd → Bool
have_all_passed runs = list_all has_run_passed runs

-- the outcome of runs of tests: done if all cases have passed, or if the option `exit_0` is set
abbrev pub tests_outcome : List RunEnd → Bool → Outcome
tests_outcome runs exit_0 = if exit_0 || have_all_passed runs then outcome.Done else outcome.TestsFailed
