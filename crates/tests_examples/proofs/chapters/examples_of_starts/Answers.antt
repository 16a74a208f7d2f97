-- Answers to the goals of `examples_of_starts`.
use Rattle.tests_examples.proofs.Starts.{journals, next_starts, lawful_starts, so_far, build_events, compile_parts}
use Rattle.tests_examples.proofs.chapters.examples_of_starts.Goals as goal

pub returns-clause-journals : goal.returns-clause-journals
returns-clause-journals c = journals

pub returns-clause-next_starts : goal.returns-clause-next_starts
returns-clause-next_starts c = next_starts

pub returns-clause-lawful_starts : goal.returns-clause-lawful_starts
returns-clause-lawful_starts c = lawful_starts

pub returns-clause-so_far : goal.returns-clause-so_far
returns-clause-so_far c = so_far

pub returns-clause-build_events : goal.returns-clause-build_events
returns-clause-build_events c = build_events

pub returns-clause-compile_parts : goal.returns-clause-compile_parts
returns-clause-compile_parts c = compile_parts
