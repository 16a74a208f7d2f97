-- What the loop of `positions_below` keeps: the positions so far are those before the next one to look at.
use Rattle.std.proofs.Common.{◌≡◌, ◌≤◌}
use Rattle.std.specs.List.{filter}
use Rattle.base.specs.PresentGraph.{below}
use Rattle.base_collections.specs.Positions.{has}
use Rattle.base_collections.proofs.set.PositionSet.positions_below.Given as goal

abbrev pub invariant-loop-count : goal.invariant-loop-count
invariant-loop-count l = record {
  passed : l._count ≤ l.from;
  within : l.from ≤ l.end;
  so_far : l.positions ≡ filter (has l.self) (below l.from);
}
