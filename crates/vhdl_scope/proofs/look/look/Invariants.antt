-- So far the links up to the index are looked at.
use Rattle.std.proofs.Common.{take}
use Rattle.vhdl_scope.specs.Links.{HasLooked}
use Rattle.vhdl_scope.proofs.look.look.Given as goal

abbrev pub invariant-loop-link : goal.invariant-loop-link
invariant-loop-link l = HasLooked (take l.link-index l.links) l.rows l.initial.row l.row l.grown
