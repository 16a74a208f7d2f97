-- Both cases of the generated bench pass by how their simulators end.
use Rattle.std.proofs.Common.{◌≡◌, true, refl}
use Rattle.testbench_runs.specs.Verdicts.{is_passed, started_name, verdicts}
use Rattle.generated_children.specs.TestedBench.{case_run, first_case, passing_exit, second_case}

pub first_is_passed : is_passed (case_run first_case) (passing_exit first_case) ≡ true
unfolding verdicts started_name first_case
first_is_passed = refl

pub second_is_passed : is_passed (case_run second_case) (passing_exit second_case) ≡ true
unfolding verdicts started_name second_case
second_is_passed = refl
