-- What remains to be proved of `has_ticket`.
use Rattle.std.proofs.Common.{arith, refl}
use Rattle.run_spec.proofs.ChildLists.{has_one, one_has}
use Rattle.run_spec.proofs.child.has_ticket.Goals as goal

pub returns-then-children-at : goal.returns-then-children-at
returns-then-children-at c = (λ is. has_one c.args.children.now c.args.ticket c.loop-at.at _ c.loop-at-test.true c.if-children-at.true, λ has. refl)

pub returns : goal.returns
returns c = (λ is. absurd (let no_case : ⊥ = cc in no_case), λ has. absurd (one_has c.args.children.now c.args.ticket (λ k other lt. c.loop-at.invariant k other (omega arith)) has.0 has.1 has.2))
