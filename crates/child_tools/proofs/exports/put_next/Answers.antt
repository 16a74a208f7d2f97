-- A library that is there isn't put again.
use Rattle.child_tools.proofs.MissingLemmas.{has_same}
use Rattle.child_tools.proofs.exports.put_next.Goals as goal

pub returns-then-same : goal.returns-then-same
returns-then-same c there = has_same c.args.library.now c.args.before.now c.args.libraries.now (c.same.ensures.0 c.if-same.true) there
