-- What the first files of the list need was taken.
use Rattle.std.proofs.Common.{◌≡◌, ◌-◌}
use Rattle.std.specs.Option.{option_map}
use Rattle.project_minimal.specs.MinimalSet.{NeedSources}
use Rattle.project_minimal.specs.Needing.{IsKnown, count_of}
use Rattle.project_minimal.specs.Taking.{Grows}
use Rattle.project_minimal.proofs.Walk.{IsWalk}
use Rattle.project_minimal.proofs.needed.take_on.Given as goal

abbrev pub invariant-loop-next : goal.invariant-loop-next
invariant-loop-next l = record {
  grows : Grows (count_of l.tables) l.initial.taken l.taken;
  walk : (said : NeedSources) → IsKnown l.tables said → said.edges ≡ option_map (λ e. e.now) l.edges → IsWalk (count_of l.tables) said l.initial.taken l.taken l.next;
}

abbrev pub decreases-loop-next : goal.decreases-loop-next
decreases-loop-next l = count_of l.tables - l.next
