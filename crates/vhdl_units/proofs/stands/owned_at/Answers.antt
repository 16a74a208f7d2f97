-- A unit with an owner whose items have no end has no end.
use Rattle.std.proofs.Common.{◌+◌, ◌*◌, subst}
use Rattle.vhdl_units.specs.Parts.{IsEndFrom}
use Rattle.vhdl_units.proofs.Walks.{owned_unended}
use Rattle.vhdl_units.proofs.stands.owned_at.Goals as goal

pub returns-in-None : goal.returns-in-None
returns-in-None c =
    owned_unended c.args.roles.now c.args.at c.args.kind c.in-Some.before c.requires.is c.in-Some.ensures
    (subst (IsEndFrom c.args.roles.now (c.args.at + 5 + 2 * c.in-Some.before)) c.in-None.is c.in_ok-last.ensures)
