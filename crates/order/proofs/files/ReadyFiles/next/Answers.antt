-- What remains to be proved of `next`.
use Rattle.order.specs.Waits.{file_count, is_listed}
use Rattle.order.proofs.WaitSteps.{next_within, listed_when, listed_past}
use Rattle.order.proofs.files.ReadyFiles.next.Goals as goal

pub returns-clause-within : goal.returns-clause-within
unfolding file_count
returns-clause-within c = next_within c.args.self.now c.args.self.now.exact c.next_from.result c.next_from.ensures

pub returns-clause-next : goal.returns-clause-next
unfolding is_listed
returns-clause-next c = c.next_from.ensures

pub returns-clause-exact : goal.returns-clause-exact
returns-clause-exact c = listed_when c.args.self.now c.args.self.now.exact

pub returns-clause-past : goal.returns-clause-past
unfolding file_count
returns-clause-past c file le = listed_past c.args.self.now c.args.self.now.exact file le
