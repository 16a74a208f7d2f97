-- What the units up to the number need was taken.
use Rattle.std.proofs.Common.{take}
use Rattle.std.specs.List.{list_any}
use Rattle.project_minimal.specs.MinimalSet.{NeedSources, units_at, wants_of}
use Rattle.project_minimal.specs.Needing.{IsKnown, count_of}
use Rattle.project_minimal.specs.Taking.{Grows, Takes}
use Rattle.project_minimal.proofs.units.take_units.Given as goal

abbrev pub invariant-loop-number : goal.invariant-loop-number
invariant-loop-number l = record {
  grows : Grows (count_of l.tables) l.initial.taken l.taken;
  takes : (said : NeedSources) → IsKnown l.tables said → Takes (λ at. list_any (λ unit. wants_of said unit at) (take l.number (units_at said l.file))) l.initial.taken l.taken;
}
