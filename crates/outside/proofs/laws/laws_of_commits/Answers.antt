-- Answers to the goals of `laws_of_commits`.
use Rattle.outside.proofs.CommitLaws.{commits_nothing, commits_one, commits_then}
use Rattle.outside.proofs.laws.laws_of_commits.Goals as goal

pub returns-clause-nothing : goal.returns-clause-nothing
returns-clause-nothing c = commits_nothing

pub returns-clause-one : goal.returns-clause-one
returns-clause-one c = commits_one

pub returns-clause-more : goal.returns-clause-more
returns-clause-more c = commits_then
