use Rattle.std.proofs.Common.{rules}
use Rattle.system_children.proofs.TicketLemmas.{passed_none}
use Rattle.system_children.proofs.tickets.leave.Goals as goal

pub unreachable-requires : goal.unreachable-requires
unreachable-requires c = search (rules, passed_none)
