-- What remains to be proved of `next_free`.
use Rattle.std.proofs.Common.{subst, ℕ, ◌<◌}
use Rattle.std.specs.Option.{IfSome}
use Rattle.order.proofs.Takes.{next_is_first}
use Rattle.order.proofs.untaken.next_free.Goals as goal

pub returns-clause-first : goal.returns-clause-first
returns-clause-first c edges taken is =
    next_is_first c.args.left.now edges taken c.next.result (c.next.ensures.exact _ _ _ _ is) (subst (λ (n : ℕ). IfSome c.next.result (λ at. at < n)) is.as_many c.next.ensures.within) c.next.ensures.next
