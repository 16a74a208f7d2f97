-- Those of the components up to the index were taken.
use Rattle.std.proofs.Common.{take}
use Rattle.project_minimal.specs.Needing.{binds_one, count_of}
use Rattle.project_minimal.specs.Taking.{Grows, Takes}
use Rattle.project_minimal.proofs.units.take_all_bound.Given as goal

abbrev pub invariant-loop-component : goal.invariant-loop-component
invariant-loop-component l = record {
  grows : Grows (count_of l.tables) l.initial.taken l.taken;
  takes : Takes (binds_one l.tables l.id l.text (take l.component-index l.components)) l.initial.taken l.taken;
}
