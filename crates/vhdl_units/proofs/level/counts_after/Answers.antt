-- The counts go up at a parenthesis and nowhere else.
use Rattle.std.proofs.Common.{sym, ◌∙◌}
use Rattle.vhdl_units.proofs.Counting.{opening_more, closing_more, other_more}
use Rattle.vhdl_units.proofs.level.counts_after.Goals as goal

pub returns-in-Opening : goal.returns-in-Opening
returns-in-Opening c = opening_more c.args.roles.now c.args.start c.args.at c.args.counts c.requires.counts c.requires.within (sym c.in-Opening.ensures)

pub returns-in-Closing : goal.returns-in-Closing
returns-in-Closing c = closing_more c.args.roles.now c.args.start c.args.at c.args.counts c.requires.counts c.requires.within (sym c.in-Closing.ensures)

pub returns-in_default : goal.returns-in_default
returns-in_default c = other_more c.args.roles.now c.args.start c.args.at c.args.counts c.requires.counts c.requires.within (λ is. c.in_default.not-Opening (c.role_at.ensures ∙ is)) (λ is. c.in_default.not-Closing (c.role_at.ensures ∙ is))
