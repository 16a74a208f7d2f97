-- Answers to the goals of `examples_of_outside_objects`.
use Rattle.tests_examples.proofs.OutsideObjects.{ended_children, sides_of_disks, latest_after}
use Rattle.tests_examples.proofs.chapters.examples_of_outside_objects.Goals as goal

pub returns-clause-ended_children : goal.returns-clause-ended_children
returns-clause-ended_children c = ended_children

pub returns-clause-sides_of_disks : goal.returns-clause-sides_of_disks
returns-clause-sides_of_disks c = sides_of_disks

pub returns-clause-latest_after : goal.returns-clause-latest_after
returns-clause-latest_after c = latest_after
