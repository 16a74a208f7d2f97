-- So far a verdict for each name up to the index.
use Rattle.std.proofs.Common.{◌≡◌, map, take}
use Rattle.testbench_runs.specs.declared.ends.Verdict.TheVariants.{Skipped}
use Rattle.run_tests.proofs.results.all_skipped.Given as goal

abbrev pub invariant-loop : goal.invariant-loop
invariant-loop l = l.list ≡ map (λ name. Skipped) (take l.index l.items)
