-- What remains to be proved of `index_of`.
use Rattle.std.proofs.Common.{arith}
use Rattle.run_spec.proofs.ChildLists.{one_has}
use Rattle.run_spec.proofs.child.index_of.Goals as goal

nothing : (c : goal.After-loop-at) → ⊥
nothing c = one_has c.args.children.now c.args.ticket (λ k other lt. c.loop-at.invariant k other (omega arith)) c.requires.0 c.requires.1 c.requires.2

pub returns-clause-within : goal.returns-clause-within
returns-clause-within c = absurd (nothing c)

pub returns-clause-found : goal.returns-clause-found
returns-clause-found c = absurd (nothing c)
