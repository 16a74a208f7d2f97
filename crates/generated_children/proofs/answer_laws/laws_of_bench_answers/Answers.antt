-- Answers to the bench.
use Rattle.generated_children.proofs.BenchAnswers.{bench_answer, bench_exit}
use Rattle.generated_children.proofs.answer_laws.laws_of_bench_answers.Goals as goal

pub returns-clause-exit : goal.returns-clause-exit
returns-clause-exit c scan entry deps scans asked built has = bench_exit deps has scan entry scans asked built

pub returns-clause-answer : goal.returns-clause-answer
returns-clause-answer c answer entry deps is asked built has = bench_answer deps has answer entry is asked built
