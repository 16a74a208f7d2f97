use Rattle.std.specs.Prelude.{Contains}
use Rattle.memory_outside.proofs.ChildLogLemmas.{child_log_ended}
use Rattle.memory_outside.proofs.child_log.ChildLog.close.Goals as goal

pub invariant_of-self : goal.invariant_of-self
invariant_of-self c =
    let there : Contains c.self.inside.running.items c.args.ticket = rw (← c.self.view_is) at c.requires.running in
    rw c.leave.ensures (child_log_ended c.self.inside.running.items c.self.inside.journal c.push_within.new.self c.args.ticket c.args.end c.requires.end there c.self.invariant c.push_within.ensures.room c.push_within.ensures.items)
