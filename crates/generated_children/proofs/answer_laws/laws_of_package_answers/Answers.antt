-- Answers to packages.
use Rattle.generated_children.proofs.PackageAnswers.{package_answer, package_exit}
use Rattle.generated_children.proofs.answer_laws.laws_of_package_answers.Goals as goal

pub returns-clause-exit : goal.returns-clause-exit
returns-clause-exit c scan entry deps number noted scans some small asked built has = package_exit number noted deps some small has scan entry scans asked built

pub returns-clause-answer : goal.returns-clause-answer
returns-clause-answer c answer entry deps number noted is some small asked built has = package_answer number noted deps some small has answer entry is asked built
