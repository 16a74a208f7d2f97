-- Answers to the goals of `laws_of_bench_sizes`.
use Rattle.project_reading.proofs.ReadBenches.{read_fits, selected_fit, read_few, selected_fewer, selected_some}
use Rattle.project_reading.proofs.laws.laws_of_bench_sizes.Goals as goal

pub returns-clause-read : goal.returns-clause-read
returns-clause-read c = read_fits

pub returns-clause-selected : goal.returns-clause-selected
returns-clause-selected c = selected_fit

pub returns-clause-few : goal.returns-clause-few
returns-clause-few c = read_few

pub returns-clause-fewer : goal.returns-clause-fewer
returns-clause-fewer c = selected_fewer

pub returns-clause-some : goal.returns-clause-some
returns-clause-some c = selected_some
