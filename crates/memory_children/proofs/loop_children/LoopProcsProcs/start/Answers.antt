use Rattle.memory_children.proofs.Scanner.{same_known}
use Rattle.memory_children.proofs.loop_children.LoopProcsProcs.start.Goals as goal

pub returns-clause-same : goal.returns-clause-same
returns-clause-same c = same_known _ _
