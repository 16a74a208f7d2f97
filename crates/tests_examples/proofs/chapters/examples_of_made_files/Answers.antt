-- Answers to the goals of `examples_of_made_files`.
use Rattle.tests_examples.proofs.MadeFiles.{made_in_the_end, answered_faults, given_before_losses, first_of_two_faults, counted_faults}
use Rattle.tests_examples.proofs.chapters.examples_of_made_files.Goals as goal

pub returns-clause-made_in_the_end : goal.returns-clause-made_in_the_end
returns-clause-made_in_the_end c = made_in_the_end

pub returns-clause-answered_faults : goal.returns-clause-answered_faults
returns-clause-answered_faults c = answered_faults

pub returns-clause-given_before_losses : goal.returns-clause-given_before_losses
returns-clause-given_before_losses c = given_before_losses

pub returns-clause-first_of_two_faults : goal.returns-clause-first_of_two_faults
returns-clause-first_of_two_faults c = first_of_two_faults

pub returns-clause-counted_faults : goal.returns-clause-counted_faults
returns-clause-counted_faults c = counted_faults
