-- So far those up to the index are there.
use Rattle.std.proofs.Common.{take}
use Rattle.vhdl_scope.specs.Names.{HasAll, keys_of}
use Rattle.vhdl_scope.proofs.names.add_all.Given as goal

abbrev pub invariant-loop-name : goal.invariant-loop-name
invariant-loop-name l = HasAll (take l.name-index l.more) (keys_of l.initial.names) (keys_of l.names)
