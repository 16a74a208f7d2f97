-- Each index takes what its links hand on, or is on the list.
use Rattle.std.proofs.Common.{◌≡◌, length}
use Rattle.vhdl_scope.specs.Work.{IsSettling, effort}
use Rattle.vhdl_scope.proofs.spread.settle.Given as goal

abbrev pub invariant-loop-at : goal.invariant-loop-at
invariant-loop-at l = record {
  room : length l.room ≡ length l.initial.room;
  settling : IsSettling l.links l.initial.rows l.rows l.work.items l.flags;
}

abbrev pub decreases-loop-at : goal.decreases-loop-at
decreases-loop-at l = effort l.readers l.rows l.work.items
