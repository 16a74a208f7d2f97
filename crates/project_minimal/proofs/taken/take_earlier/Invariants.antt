-- The files up to the next were taken.
use Rattle.std.proofs.Common.{◌&&◌, not, nat_lt}
use Rattle.project_minimal.specs.Taking.{Grows, Takes}
use Rattle.project_minimal.proofs.taken.take_earlier.Given as goal

abbrev pub invariant-loop-file : goal.invariant-loop-file
invariant-loop-file l = record {
  grows : Grows l.count l.initial.taken l.taken;
  takes : Takes (λ at. not (nat_lt at l.low) && nat_lt at l.file) l.initial.taken l.taken;
}
