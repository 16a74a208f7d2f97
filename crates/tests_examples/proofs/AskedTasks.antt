-- The examples of "Reading: what words and sources say", by computation.
use Rattle.std.proofs.Common.{refl}
use Rattle.std.specs.Char.{encode_utf8}
use Rattle.std.specs.Str.{chars, is_utf8}
use Rattle.clap.specs.Faults.{defaults_fault, flags_fault, walk_fault}
use Rattle.clap.specs.Walk.{bundle_met, walked}
use Rattle.base.specs.PresentGraph.{below, listed_from}
use Rattle.vunit_arguments.specs.Arguments.{setting_of}
use Rattle.project_file.specs.Csv.{added_by, csv_file_of, files_after, name_fault}
use Rattle.report.specs.Texts.{warning_of}
use Rattle.project_reading.specs.Reading.{project_in, project_reading, scanned_reading, scans_of, texts_of, wanted_tests}
use Rattle.tests_examples.specs.AskedTasks.{TasksOfSettings, WholeReadings}

pub tasks_of_settings : TasksOfSettings
tasks_of_settings = record { list_files = refl; needed_files = refl; list_tests = refl; too_many = refl; run = refl; report = refl; needed_run = refl; generated = refl; too_large = refl; both_over = refl; builds_nothing = refl; writes_nothing = refl; child = refl }

pub whole_readings : WholeReadings
unfolding encode_utf8 chars is_utf8 defaults_fault flags_fault walk_fault bundle_met walked below listed_from setting_of added_by csv_file_of files_after name_fault warning_of project_in project_reading scanned_reading scans_of texts_of wanted_tests
whole_readings = record { builds = refl }
