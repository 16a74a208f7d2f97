-- Both laws are lemmas on lists.
use Rattle.testbench_scan.proofs.Distinct.{bench_of_one, names_distinct}
use Rattle.testbench_scan.proofs.laws.laws_of_benches.Goals as goal

pub returns : goal.returns
returns c = record { made = bench_of_one; distinct = names_distinct }
