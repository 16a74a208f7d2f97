-- So far the names up to the index are put.
use Rattle.std.proofs.Common.{take}
use Rattle.vhdl_scope.specs.Names.{keys_of}
use Rattle.vhdl_scope.specs.Graph.{HasPut}
use Rattle.vhdl_scope.proofs.own.put_all.Given as goal

abbrev pub invariant-loop-name : goal.invariant-loop-name
invariant-loop-name l = HasPut (keys_of l.names) (take l.name-index l.more) l.initial.row l.row
