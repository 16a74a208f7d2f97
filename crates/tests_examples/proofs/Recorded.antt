-- The examples of "Records, and what a stop can leave", by computation.
use Rattle.std.proofs.Common.{inl, inr, refl}
use Rattle.base.specs.Bytes.{text_bytes}
use Rattle.base.specs.Jobs.{all_built_bytes, built_bytes, compile_input, name_bytes}
use Rattle.outside.specs.Records.{latest, latest_alone}
use Rattle.run_spec.specs.ChildJournal.{after, after_all, artefact_by, built_at, has_all, output_at}
use Rattle.run_spec.specs.Folds.{upto}
use Rattle.run_spec.specs.Moves.{first_from, is_startable, next_start}
use Rattle.run_spec.specs.Recorded.{current_by_request, is_same_asked}
use Rattle.tests_examples.specs.Recorded.{AskedFiles, BuildCommits, CurrentFiles, LatestRecords, TrueRecords}

pub latest_records : LatestRecords
unfolding latest latest_alone
latest_records = record { of_a = refl; of_b = refl; each = refl; all = inl refl; alone = inr refl }

pub asked_files : AskedFiles
unfolding text_bytes all_built_bytes built_bytes compile_input name_bytes latest is_same_asked
asked_files = record { request = refl; built_so = refl; built_last = refl; of_b = refl; over_other = refl; same = refl; not_same = refl }

pub current_files : CurrentFiles
unfolding latest current_by_request is_same_asked
current_files = record { first = refl; second = refl; below_differs = refl; none_below = refl; third = refl; changed = refl; still_current = refl; deps = refl }

pub build_commits : BuildCommits
unfolding text_bytes all_built_bytes built_bytes compile_input name_bytes after after_all artefact_by built_at has_all upto output_at first_from is_startable next_start
build_commits = record { both = refl; first = refl }

pub true_records : TrueRecords
unfolding text_bytes all_built_bytes built_bytes compile_input name_bytes
true_records = record { of_a = record { code = refl; output = refl }; of_b = record { code = refl; output = refl } }
