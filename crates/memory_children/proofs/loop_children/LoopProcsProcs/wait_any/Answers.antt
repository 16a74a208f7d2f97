use Rattle.memory_children.proofs.Scanner.{same_known}
use Rattle.memory_children.proofs.loop_children.LoopProcsProcs.wait_any.Goals as goal

pub returns-then-fails-clause-same : goal.returns-then-fails-clause-same
returns-then-fails-clause-same c = same_known _ _

pub returns-in-Ok-clause-same : goal.returns-in-Ok-clause-same
returns-in-Ok-clause-same c = same_known _ _

pub returns-in-Err-clause-same : goal.returns-in-Err-clause-same
returns-in-Err-clause-same c = same_known _ _
