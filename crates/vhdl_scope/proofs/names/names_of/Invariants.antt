-- So far those of the files up to the index are there.
use Rattle.std.proofs.Common.{take, [], ◌++◌}
use Rattle.std.specs.List.{flat_map}
use Rattle.vhdl_scope.specs.Names.{HasAll, implicit, keys_of}
use Rattle.vhdl_scope.proofs.names.names_of.Given as goal

abbrev pub invariant-loop-file : goal.invariant-loop-file
invariant-loop-file l = HasAll (implicit ++ flat_map (λ file. flat_map (λ unit. unit.names) file.scopes) (take l.file-index l.files)) [] (keys_of l.names)
