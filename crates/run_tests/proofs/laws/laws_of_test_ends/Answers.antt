-- Answers to the goal of `laws_of_test_ends`.
use Rattle.run_tests.proofs.TestsEnded.{ends_steady}
use Rattle.run_tests.proofs.laws.laws_of_test_ends.Goals as goal

pub returns : goal.returns
returns c answer setting events going whole answered = ends_steady answer setting going events whole answered
