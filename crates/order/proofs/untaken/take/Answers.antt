-- What remains to be proved of `take`.
use Rattle.order.proofs.Takes.{untaken_after}
use Rattle.order.proofs.untaken.take.Goals as goal

pub returns : goal.returns
returns c edges taken is fresh = untaken_after c.args.left.now c.take.new.self c.finish.new.self edges taken c.args.at c.take.ensures.waits c.finish.ensures.waits fresh is
