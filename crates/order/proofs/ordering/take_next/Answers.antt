-- What remains to be proved of `take_next`.
use Rattle.std.proofs.Common.{◌≡◌, ◌∙◌, sym, ap, subst, Some}
use Rattle.order.specs.BuildOrder.{first_free, with_taken}
use Rattle.order.specs.Untakens.{IsUntaken}
use Rattle.order.proofs.Takes.{fresh_from_first}
use Rattle.order.proofs.ordering.take_next.Goals as goal

pub returns : goal.returns
returns c edges is =
    let first : first_free edges c.args.order.now ≡ Some c.in-Some.at = sym (c.next_free.ensures.first edges c.args.order.now is) ∙ c.in-Some.is in (
      c.in_ok-push.ensures.ok ∙ sym (ap (with_taken c.args.order.now) first),
      subst (IsUntaken c.take.new.left edges) (sym c.in_ok-push.ensures.ok) (c.take.ensures edges c.args.order.now is (fresh_from_first edges c.args.order.now c.in-Some.at first)),
    )
