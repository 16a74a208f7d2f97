-- The examples of "Reading: what words and sources say", by computation.
use Rattle.std.proofs.Common.{refl}
use Rattle.std.specs.Char.{encode_utf8}
use Rattle.std.specs.Str.{chars, is_utf8}
use Rattle.clap.specs.Faults.{defaults_fault, flags_fault, walk_fault}
use Rattle.clap.specs.Walk.{bundle_met, walked}
use Rattle.base.specs.PresentGraph.{below, listed_from}
use Rattle.vunit_arguments.specs.Arguments.{setting_of}
use Rattle.project_file.specs.Csv.{added_by, csv_file_of, files_after, name_fault}
use Rattle.project_reading.specs.Asked.{project_paths}
use Rattle.project_reading.specs.Reading.{project_in, project_reading, scanned_reading, scans_of, texts_of, wanted_tests}
use Rattle.tests_examples.specs.WordsAndSources.{ReadSources, SettingsOfWords}

pub settings_of_words : SettingsOfWords
unfolding encode_utf8 chars is_utf8 defaults_fault flags_fault walk_fault bundle_met walked setting_of
settings_of_words = record { compiling = refl; zero = refl; twice = refl; unknown = refl }

pub read_sources : ReadSources
unfolding encode_utf8 chars is_utf8 below listed_from added_by csv_file_of files_after name_fault project_paths project_in project_reading scanned_reading scans_of texts_of wanted_tests
read_sources = record { asked = refl; found = refl; absent = refl; second_refused = refl }
