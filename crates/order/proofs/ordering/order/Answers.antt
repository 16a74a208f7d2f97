-- What remains to be proved of `order`.
use Rattle.std.proofs.Common.{◌≡◌, ◌∙◌, sym, ap, subst, List, ℕ, length}
use Rattle.order.specs.BuildOrder.{all_taken, Ordered, Cyclic}
use Rattle.order.proofs.Cycles.{ordered_is}
use Rattle.order.specs.Untakens.{AreWaiting}
use Rattle.order.proofs.Takes.{order_is_whole, order_is_short, some_left}
use Rattle.order.proofs.ordering.order.Goals as goal

pub returns-then-len-clause-exact : goal.returns-then-len-clause-exact
returns-then-len-clause-exact c =
    let all : length (all_taken c.args.edges.now) ≡ length c.args.edges.now = ap (λ (xs : List ℕ). length xs) (sym c.in_ok-order.ensures.order) ∙ sym c.len.ensures ∙ c.if-len.true ∙ c.len-2.ensures in
    order_is_whole c.args.edges.now all ∙ ap Ordered (sym c.in_ok-order.ensures.order)

pub returns-then-len-clause-sorted : goal.returns-then-len-clause-sorted
returns-then-len-clause-sorted c = ordered_is c.args.edges.now c.in_ok-order.order (returns-then-len-clause-exact c)

pub cycle_of-requires-clause-some : goal.cycle_of-requires-clause-some
cycle_of-requires-clause-some c = some_left c.args.edges.now (λ all. c.if-len.false (c.len.ensures ∙ ap (λ (xs : List ℕ). length xs) c.in_ok-order.ensures.order ∙ all ∙ sym c.len-2.ensures))

pub cycle_of-requires-clause-as_many : goal.cycle_of-requires-clause-as_many
cycle_of-requires-clause-as_many c = (c.untaken.ensures c.args.edges.now c.in_ok-order.order c.in_ok-order.ensures.left).as_many

pub returns-clause-exact : goal.returns-clause-exact
returns-clause-exact c =
    let waiting : AreWaiting c.untaken.result.now (length c.args.edges.now) (all_taken c.args.edges.now) = subst (AreWaiting c.untaken.result.now (length c.args.edges.now)) c.in_ok-order.ensures.order (c.untaken.ensures c.args.edges.now c.in_ok-order.order c.in_ok-order.ensures.left) in
    order_is_short c.args.edges.now (λ all. c.if-len.false (c.len.ensures ∙ ap (λ (xs : List ℕ). length xs) c.in_ok-order.ensures.order ∙ all ∙ sym c.len-2.ensures))
    ∙ ap Cyclic (sym (c.in_ok-files.ensures (all_taken c.args.edges.now) waiting))
