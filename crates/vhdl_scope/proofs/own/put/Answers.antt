-- The name's number is put.
use Rattle.vhdl_scope.specs.Names.{keys_of}
use Rattle.vhdl_scope.proofs.OwnLemmas.{put_one}
use Rattle.vhdl_scope.proofs.own.put.Goals as goal

pub returns-in-Some : goal.returns-in-Some
returns-in-Some c = put_one (keys_of c.args.names.now) c.args.name.now c.args.row.now c.put.new.self c.in-Some.number c.requires.known (c.in-Some.ensures.found.0) c.put.ensures.len c.put.ensures.bits
