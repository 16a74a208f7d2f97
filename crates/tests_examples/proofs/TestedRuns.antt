-- The examples of "Runs of tests", by computation.
use Rattle.std.proofs.Common.{refl}
use Rattle.std.specs.Fmt.{digits}
use Rattle.base.specs.Bytes.{text_bytes}
use Rattle.base.specs.Jobs.{all_built_bytes, built_bytes, compile_input, name_bytes}
use Rattle.base.specs.PresentGraph.{below}
use Rattle.outside.specs.Records.{latest}
use Rattle.run_spec.specs.ChildJournal.{EachAfter}
use Rattle.run_spec.specs.CleanBuild.{results_after}
use Rattle.run_spec.specs.Statuses.{refused_files}
use Rattle.run_spec.specs.Moves.{LawfulMoves, after_move, first_from, has_ended_well, is_startable, next_start}
use Rattle.testbench_runs.specs.BenchJobs.{bench_input, texts_bytes}
use Rattle.testbench_runs.specs.Configuration.{configuration, pairs_of}
use Rattle.testbench_runs.specs.Runs.{escaped_byte, output_path, results_path, run_name}
use Rattle.testbench_runs.specs.Verdicts.{started_name, verdicts}
use Rattle.run_spec.specs.Steps.{step_at}
use Rattle.run_spec.specs.TestJournal.{AreTestsRequested, after_test, after_tests, test_moves}
use Rattle.report.specs.Texts.{compile_failed, compile_passed, compiling, failed, files_text, not_needed, passed, skipped}
use Rattle.report.specs.Junit.{case_end, case_start, class_of, last_line, suite_line, value_after, value_byte, xml_byte, xml_line}
use Rattle.report.specs.TestTexts.{count_line, no_tests, summary_line, verdict_line, verdict_word}
use Rattle.run_tests.specs.Requests.{borrowed_at}
use Rattle.run_tests.specs.Results.{run_exit}
use Rattle.tests_examples.specs.TestedRuns.{EndsOfTests, MovesOfTests, RunsSaid, TestsSaid}

pub tests_said : TestsSaid
unfolding digits value_after value_byte xml_byte count_line no_tests summary_line verdict_line verdict_word
tests_said = record { text = refl; quiet = refl; failed = refl; ignored = refl; none = refl }

pub moves_of_tests : MovesOfTests
unfolding text_bytes all_built_bytes built_bytes name_bytes EachAfter LawfulMoves after_move first_from has_ended_well is_startable next_start bench_input texts_bytes configuration pairs_of escaped_byte output_path results_path run_name started_name verdicts step_at AreTestsRequested after_test after_tests test_moves
moves_of_tests = record { count = refl; lawful = refl; taken = refl; ended = refl; next = refl; last = refl; is_lawful = record { moves = (refl, (refl, tt)); requests = (refl, (tt, tt)); tickets = (refl, (tt, tt)) }; waits = refl; at_first = refl; second_step = refl }

pub ends_of_tests : EndsOfTests
unfolding text_bytes all_built_bytes built_bytes name_bytes below latest after_move first_from has_ended_well is_startable next_start bench_input texts_bytes configuration pairs_of escaped_byte output_path results_path run_name started_name verdicts after_test after_tests borrowed_at run_exit
ends_of_tests = record { verdicts_of = refl; borrowed = refl }

pub runs_said : RunsSaid
unfolding digits text_bytes all_built_bytes built_bytes compile_input name_bytes below results_after refused_files compile_failed compile_passed compiling failed files_text not_needed passed skipped case_end case_start class_of last_line suite_line value_after value_byte xml_byte xml_line count_line no_tests summary_line verdict_line verdict_word
runs_said = record { outcome_of = refl; ignored = refl; build_first = refl; made = refl }
