-- So far the indices up to the index are on the list.
use Rattle.std.proofs.Common.{take}
use Rattle.vhdl_scope.specs.Work.{HasListed}
use Rattle.vhdl_scope.proofs.work.list_all.Given as goal

abbrev pub invariant-loop-at : goal.invariant-loop-at
invariant-loop-at l = HasListed (take l.at-index l.row_indices) l.initial.work.items l.initial.flags l.work.items l.flags
