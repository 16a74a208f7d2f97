-- The files of the benches up to the index were taken.
use Rattle.std.proofs.Common.{◌&&◌, nat_lt, take}
use Rattle.project_minimal.specs.MinimalSet.{is_tested}
use Rattle.project_minimal.specs.Taking.{Grows, Takes}
use Rattle.project_minimal.proofs.needed.take_tested.Given as goal

abbrev pub invariant-loop-bench : goal.invariant-loop-bench
invariant-loop-bench l = record {
  grows : Grows l.count l.initial.taken l.taken;
  takes : Takes (λ at. is_tested (take l.bench-index l.tests) at && nat_lt at l.count) l.initial.taken l.taken;
}
