-- So far the runs are the same.
use Rattle.std.proofs.Common.{◌≡◌, ◌<◌, ℕ, get_or, length}
use Rattle.vhdl_scope.specs.declared.row.Run.{Run}
use Rattle.vhdl_scope.proofs.row.are_same.Given as goal

abbrev pub invariant-loop-at : goal.invariant-loop-at
invariant-loop-at l = (k : ℕ) → k < l.at → get_or l.runs k (record { end = 0; word = 0 }) ≡ get_or l.other k (record { end = 0; word = 0 })
