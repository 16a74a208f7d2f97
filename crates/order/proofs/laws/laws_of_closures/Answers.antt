-- What remains to be proved of `laws_of_closures`.
use Rattle.order.proofs.Reaching.{reaches_is_way}
use Rattle.order.proofs.laws.laws_of_closures.Goals as goal

pub returns-clause-way : goal.returns-clause-way
returns-clause-way c edges order file other is lt reached = (reaches_is_way edges order is file other lt).0 reached

pub returns-clause-reached : goal.returns-clause-reached
returns-clause-reached c edges order way file other is lt along = (reaches_is_way edges order is file other lt).1 way along
