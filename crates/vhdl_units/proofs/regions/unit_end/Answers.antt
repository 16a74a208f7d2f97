-- A unit ends at the first semicolon after its close.
use Rattle.std.proofs.Common.{subst}
use Rattle.vhdl_units.specs.Parts.{IsCloseFrom}
use Rattle.vhdl_units.proofs.Walks.{end_from}
use Rattle.vhdl_units.proofs.regions.unit_end.Goals as goal

pub returns-in-Some : goal.returns-in-Some
returns-in-Some c = end_from c.args.roles.now c.args.start c.in-Some.close c.first_semicolon.result (subst (IsCloseFrom c.args.roles.now c.args.start) c.in-Some.is c.in_ok-close.ensures) c.first_semicolon.ensures
