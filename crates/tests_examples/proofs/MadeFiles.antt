-- The examples of "A build over any store", by computation.
use Rattle.std.proofs.Common.{arith, refl, ◌<◌, ◌≤◌}
use Rattle.base.specs.Bytes.{text_bytes}
use Rattle.base.specs.Jobs.{all_built_bytes, built_bytes, compile_input, name_bytes}
use Rattle.base.specs.PresentGraph.{below}
use Rattle.run_spec.specs.ChildJournal.{after, after_all, artefact_by, built_at, exit_at, has_all, output_at}
use Rattle.run_spec.specs.Folds.{upto}
use Rattle.run_spec.specs.Moves.{first_from, is_startable, next_start}
use Rattle.tests_examples.specs.MadeFiles.{AnsweredFaults, CountedFaults, FirstOfTwoFaults, GivenBeforeLosses, MadeInTheEnd}

pub made_in_the_end : MadeInTheEnd
unfolding text_bytes all_built_bytes built_bytes compile_input name_bytes below after after_all artefact_by built_at has_all upto exit_at output_at first_from is_startable next_start
made_in_the_end = record { first_alone = refl; both = refl }

pub answered_faults : AnsweredFaults
unfolding text_bytes all_built_bytes built_bytes compile_input name_bytes after after_all artefact_by built_at has_all upto output_at first_from is_startable next_start
answered_faults = record { lost = refl; no_memory = refl; before = refl; given = refl }

pub given_before_losses : GivenBeforeLosses
unfolding text_bytes all_built_bytes built_bytes compile_input name_bytes after after_all artefact_by built_at has_all upto output_at first_from is_startable next_start
given_before_losses = record { given_one = refl; given_none = refl }

pub first_of_two_faults : FirstOfTwoFaults
unfolding text_bytes all_built_bytes built_bytes compile_input name_bytes after after_all artefact_by built_at has_all upto output_at first_from is_startable next_start
first_of_two_faults = record { loss = let most : 0 ≤ 0 = omega arith in record { lost = refl; before = most }; disk = let least : 0 < 1 = omega arith in record { breaks = refl; before = least } }

pub counted_faults : CountedFaults
counted_faults = record { lost = record { none_fell = record { children = record { starts = omega arith; losses = omega arith }; disks = omega arith }; explains = omega arith; start_first = refl; breaks = λ broken. omega arith }; of_disk = record { none_fell = record { children = record { starts = omega arith; losses = omega arith }; disks = omega arith }; explains = omega arith; start_first = refl; breaks = λ broken. omega arith }; of_start = record { none_fell = record { children = record { starts = omega arith; losses = omega arith }; disks = omega arith }; explains = omega arith; start_first = tt; breaks = λ broken. omega arith }; of_memory = record { none_fell = record { children = record { starts = omega arith; losses = omega arith }; disks = omega arith }; explains = tt; start_first = tt; breaks = λ broken. omega arith }; not_of_disk = λ counted. omega (arith, counted.start_first); not_lost = λ counted. omega (arith, counted.start_first) }
