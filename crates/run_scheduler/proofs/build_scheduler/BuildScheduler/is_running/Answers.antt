-- What remains to be proved of `is_running`.
use Rattle.std.proofs.Common.{subst, List, map}
use Rattle.std.specs.Prelude.{IsTrue, Contains, ◌↔◌}
use Rattle.run_scheduler.specs.Machines.{tickets_of}
use Rattle.run_spec.specs.declared.child.Child.{Child}
use Rattle.run_scheduler.proofs.build_scheduler.BuildScheduler.is_running.Goals as goal

pub returns : goal.returns
unfolding tickets_of
returns c = subst (λ (children : List Child). IsTrue c.has_ticket.result ↔ Contains (map (λ (child : Child). child.ticket) children) c.args.ticket) c.as_slice.ensures.value c.has_ticket.ensures
