-- The examples of "What is started", by computation.
use Rattle.std.proofs.Common.{refl}
use Rattle.base.specs.Bytes.{text_bytes}
use Rattle.base.specs.Jobs.{all_built_bytes, built_bytes, compile_input, name_bytes}
use Rattle.outside.specs.Records.{latest}
use Rattle.run_spec.specs.ChildJournal.{AreRequested, EachAfter, after, after_all, artefact_by, built_at, has_all, moves_after, output_at, request_at}
use Rattle.run_spec.specs.Folds.{upto}
use Rattle.run_spec.specs.Moves.{GreedyMoves, LawfulMoves, after_move, after_moves, first_from, is_startable, next_start}
use Rattle.run_spec.specs.Recorded.{current_by_request, is_same_asked}
use Rattle.tests_examples.specs.Starts.{BuildEvents, CompileParts, Journals, LawfulStarts, NextStarts, SoFar}

pub journals : Journals
unfolding text_bytes all_built_bytes built_bytes compile_input name_bytes latest current_by_request is_same_asked
journals = record { last_two = refl; starts = refl; recorded = refl; nothing_recorded = refl }

pub next_starts : NextStarts
unfolding artefact_by built_at has_all upto output_at after_move after_moves first_from is_startable next_start
next_starts = record { at_first = refl; while_a_runs = refl; after_a = refl; at_last = refl; halted = refl; goes_on = refl; is_halted = refl; not_halted = refl }

pub lawful_starts : LawfulStarts
unfolding artefact_by built_at has_all upto output_at GreedyMoves LawfulMoves after_move after_moves first_from is_startable next_start
lawful_starts = record { lawful = (refl, (refl, (refl, (refl, tt)))); greedy = (tt, (refl, (tt, (refl, tt)))); finished = record { idle = refl; over = refl }; refused_finished = record { idle = refl; over = refl }; goes_on_finished = record { idle = refl; over = refl }; any_order = (refl, (refl, (refl, (refl, (refl, (refl, tt)))))); early_end = (refl, (refl, (refl, tt))); early_start = refl; never_started = refl; ended_twice = refl }

pub so_far : SoFar
unfolding artefact_by built_at has_all upto output_at after_move after_moves first_from is_startable next_start
so_far = record { is_lawful = refl; taken = refl; position = refl; no_position = refl; lawful_end = refl; greedy_end = refl; after_halt = refl; finished = record { idle = refl; over = refl } }

pub build_events : BuildEvents
unfolding text_bytes all_built_bytes built_bytes compile_input name_bytes AreRequested EachAfter after after_all artefact_by built_at has_all upto moves_after output_at request_at GreedyMoves LawfulMoves after_move first_from is_startable next_start
build_events = record { taken = refl; none_next = refl; next = refl; no_artefact = refl; artefact = refl; lawful = record { moves = (refl, (refl, (refl, (refl, tt)))); requests = (refl, (tt, (refl, (tt, tt)))); tickets = (refl, (tt, (refl, (tt, tt)))) }; whole = record { lawful = record { moves = (refl, (refl, (refl, (refl, tt)))); requests = (refl, (tt, (refl, (tt, tt)))); tickets = (refl, (tt, (refl, (tt, tt)))) }; greedy = (tt, (refl, (tt, (refl, tt)))); finished = record { idle = refl; over = refl }; none_lost = refl }; whole_refused = record { lawful = record { moves = (refl, (refl, tt)); requests = (refl, (tt, tt)); tickets = (refl, (tt, tt)) }; greedy = (tt, (refl, tt)); finished = record { idle = refl; over = refl }; none_lost = refl }; answered = (tt, (refl, (tt, (refl, tt)))) }

pub compile_parts : CompileParts
unfolding text_bytes all_built_bytes built_bytes compile_input name_bytes
compile_parts = record { compilers = refl }
