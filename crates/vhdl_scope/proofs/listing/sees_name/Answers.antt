-- By the number of the name, if it has one.
use Rattle.std.proofs.Common.{◌∙◌}
use Rattle.vhdl_scope.specs.Names.{keys_of}
use Rattle.vhdl_scope.proofs.TableLemmas.{by_none, by_number}
use Rattle.vhdl_scope.proofs.listing.sees_name.Goals as goal

pub returns-in-Some : goal.returns-in-Some
returns-in-Some c = c.has.ensures ∙ by_number (keys_of c.args.names.now) c.args.row.now c.args.name.now c.in-Some.number (c.in-Some.ensures.found.0) (c.in-Some.ensures.found.1)

pub returns-in-None : goal.returns-in-None
returns-in-None c = by_none (keys_of c.args.names.now) c.args.row.now c.args.name.now c.in-None.ensures.none
