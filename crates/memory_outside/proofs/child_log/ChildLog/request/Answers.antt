use Rattle.std.proofs.Common.{◌∙◌}
use Rattle.memory_outside.proofs.ChildLogLemmas.{request_there}
use Rattle.memory_outside.proofs.child_log.ChildLog.request.Goals as goal

pub returns : goal.returns
returns c =
    rw (← c.self.view_is) (c.started_as.ensures ∙ request_there c.args.ticket c.self.inside.journal.items c.get.result.now c.self.invariant.placed c.get.ensures)
