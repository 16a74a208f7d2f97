-- The name is what comes after the word, where it is wanted.
use Rattle.std.proofs.Common.{sym, ◌∙◌}
use Rattle.child_tools.proofs.Failing.{no_name, not_wanted, one_more}
use Rattle.child_tools.proofs.failures.take_line.Goals as goal

pub returns-in_default : goal.returns-in_default
returns-in_default c = no_name c.args.wanted.now c.args.failing.now c.args.line.now c.in_default.ensures.is

pub returns-in_ok-add : goal.returns-in_ok-add
returns-in_ok-add c = one_more c.args.wanted.now c.args.failing.now c.args.line.now c.in-Some.name.now c.in-Some.ensures.is c.add.new.self (sym c.has.ensures ∙ c.if-has.true) c.in_ok-add.ensures

pub returns-else-has : goal.returns-else-has
returns-else-has c = not_wanted c.args.wanted.now c.args.failing.now c.args.line.now c.in-Some.name.now c.in-Some.ensures.is (sym c.has.ensures ∙ c.if-has.false)
