-- The files up to the index were taken.
use Rattle.std.proofs.Common.{take}
use Rattle.project_minimal.specs.Suppliers.{has_file}
use Rattle.project_minimal.specs.Taking.{Grows, Takes}
use Rattle.project_minimal.proofs.taken.take_all.Given as goal

abbrev pub invariant-loop-file : goal.invariant-loop-file
invariant-loop-file l = record {
  grows : Grows l.count l.initial.taken l.taken;
  takes : Takes (has_file (take l.file-index l.files)) l.initial.taken l.taken;
}
