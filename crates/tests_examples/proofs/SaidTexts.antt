-- The examples of "Statuses, texts and answers", by computation.
use Rattle.std.proofs.Common.{refl, sym, ⊎_elim}
use Rattle.std.proofs.lemmas.Bool.{false≢true}
use Rattle.base.specs.Bytes.{text_bytes}
use Rattle.base.specs.Jobs.{all_built_bytes, built_bytes, compile_input, name_bytes}
use Rattle.base.specs.PresentGraph.{below}
use Rattle.outside.specs.Records.{latest}
use Rattle.run_spec.specs.ChildJournal.{after, after_all, artefact_by, built_at, exit_at, has_all, output_at}
use Rattle.run_spec.specs.Folds.{upto}
use Rattle.run_spec.specs.CleanBuild.{results_after}
use Rattle.run_spec.specs.Moves.{first_from, is_startable, next_start}
use Rattle.run_spec.specs.Recorded.{current_by_request, is_same_asked}
use Rattle.run_spec.specs.Settled.{settle}
use Rattle.tests_examples.specs.SaidTexts.{FileStatuses, HaltedBuilds}

pub file_statuses : FileStatuses
unfolding text_bytes all_built_bytes built_bytes compile_input name_bytes below latest after after_all artefact_by built_at has_all upto exit_at output_at results_after settle first_from is_startable next_start current_by_request is_same_asked
file_statuses = record { refused = refl; compiled = refl; steady = refl; some_refused = refl }

pub halted_builds : HaltedBuilds
unfolding text_bytes all_built_bytes built_bytes compile_input name_bytes below after after_all artefact_by built_at has_all upto exit_at output_at first_from is_startable next_start
halted_builds = record { halts = ⊎_elim false≢true (λ fresh. false≢true (sym fresh)) }
