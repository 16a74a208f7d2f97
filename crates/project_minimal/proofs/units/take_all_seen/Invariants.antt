-- Of the files up to the index those were taken.
use Rattle.std.proofs.Common.{◌&&◌, take}
use Rattle.project_minimal.specs.Needing.{count_of, looks}
use Rattle.project_minimal.specs.Suppliers.{has_file}
use Rattle.project_minimal.specs.Taking.{Grows, Takes}
use Rattle.project_minimal.proofs.units.take_all_seen.Given as goal

abbrev pub invariant-loop-file : goal.invariant-loop-file
invariant-loop-file l = record {
  grows : Grows (count_of l.tables) l.initial.taken l.taken;
  takes : Takes (λ at. looks l.tables l.id at && has_file (take l.file-index l.files) at) l.initial.taken l.taken;
}
