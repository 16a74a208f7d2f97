-- What a run says and answers of its build and of the tests that followed it.
use Rattle.std.specs.Prelude.{ℕ, List, ◌++◌, Option, Some, None, if◌then◌else◌}
use Rattle.base.specs.declared.graph.Entry.{Entry}
use Rattle.run_spec.specs.declared.statuses.FileStatus.{FileStatus}
use Rattle.report.specs.Outcomes.{build_outcome}
use Rattle.report.specs.Texts.{shown_bytes, build_text}
use Rattle.testbench_runs.specs.declared.runs.TestRun.{TestRun}
use Rattle.testbench_runs.specs.declared.ends.TestEnd.{TestEnd}
use Rattle.report.specs.Counts.{tests_outcome}
use Rattle.report.specs.TestTexts.{test_text}
use Rattle.report.specs.Junit.{junit}
use Rattle.report.specs.declared.said.RunSaid.{RunSaid}
use Rattle.report.specs.declared.said.TestWords.{TestWords}

-- the report of a build without tests: its outcome, and the warnings with the text of its files after them
abbrev pub said_of_build : (warnings : List ℕ) → List Entry → List FileStatus → RunSaid
said_of_build warnings graph statuses = record { outcome = build_outcome graph statuses; text = warnings ++ build_text shown_bytes graph statuses; report = None }

-- The report of a build and of its tests. The text of the tests follows that of the build, and the outcome is that of the
-- tests.
abbrev pub said_of_tests : (warnings : List ℕ) → List Entry → List FileStatus → List TestRun → TestWords → TestEnd → RunSaid
said_of_tests warnings graph statuses runs words end = record {
  outcome = tests_outcome end.runs words.exit_0;
  text = (warnings ++ build_text shown_bytes graph statuses) ++ test_text words.verbose words.quiet end.runs;
  report = if words.report then Some (junit runs end.runs) else None;
}

-- the report of a run of the program, with tests if they have an end
abbrev pub run_said : (warnings : List ℕ) → List Entry → List FileStatus → List TestRun → TestWords → Option TestEnd → RunSaid
run_said warnings graph statuses runs words None = said_of_build warnings graph statuses
run_said warnings graph statuses runs words (Some end) = said_of_tests warnings graph statuses runs words end
