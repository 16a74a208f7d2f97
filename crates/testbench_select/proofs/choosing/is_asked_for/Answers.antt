-- A longer name isn't asked for.
use Rattle.std.proofs.Common.{sym, arith}
use Rattle.std.proofs.lemmas.Bool.{false_from_ne_true}
use Rattle.testbench_select.specs.Choosing.{is_asked_for}
use Rattle.testbench_select.proofs.choosing.is_asked_for.Goals as goal

pub returns-then-name-choice : goal.returns-then-name-choice
returns-then-name-choice c = sym (false_from_ne_true (is_asked_for c.args.choice.now.plain c.args.name.now) (λ told. let few = c.requires c.args.name.now told in omega (arith, few, c.if-name-choice.true)))
