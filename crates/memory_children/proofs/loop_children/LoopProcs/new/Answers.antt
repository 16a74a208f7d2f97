use Rattle.memory_children.proofs.Scanner.{answer}
use Rattle.memory_children.proofs.loop_children.LoopProcs.new.Goals as goal

pub invariant_of-result : goal.invariant_of-result
invariant_of-result c = record { known = answer }
