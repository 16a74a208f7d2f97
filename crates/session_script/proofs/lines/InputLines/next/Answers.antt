use Rattle.std.proofs.Common.{◌∙◌, sym, arith, nat_lt}
use Rattle.std.proofs.lemmas.Bool.{cond-true, cond-false, lt-ltb, le-ltb}
use Rattle.outside.specs.declared.streams.LineEnd.TheVariants as line
use Rattle.session_script.specs.declared.limits.TheConstants.{LINE_COUNT_LIMIT}
use Rattle.session_script.specs.declared.lines.Ending.TheVariants.{OverLines}
use Rattle.session_script.specs.declared.lines.NextLine.TheVariants.{Got, Ends}
use Rattle.session_script.proofs.FirstLines.{next_from}
use Rattle.session_script.proofs.lines.InputLines.next.Goals as goal

pub returns-in-End-clause-next : goal.returns-in-End-clause-next
returns-in-End-clause-next g c = λ tells. next_from c.args.at_end c.args.self.now (g.S.Source.left c.args.input.now) line.End (sym c.in-End.is ∙ c.in_ok-take_line.ensures.line tells)

pub returns-in-TooLong-clause-next : goal.returns-in-TooLong-clause-next
returns-in-TooLong-clause-next g c = λ tells. next_from c.args.at_end c.args.self.now (g.S.Source.left c.args.input.now) line.TooLong (sym c.in-TooLong.is ∙ c.in_ok-take_line.ensures.line tells)

pub returns-else-self-ge-LINE_COUNT_LIMIT-clause-next : goal.returns-else-self-ge-LINE_COUNT_LIMIT-clause-next
returns-else-self-ge-LINE_COUNT_LIMIT-clause-next g c = λ tells.
    sym (cond-true (nat_lt c.args.self.now LINE_COUNT_LIMIT) (Got c.in-Got.line) (Ends OverLines) (lt-ltb _ _ (omega (arith, c.if-self-ge-LINE_COUNT_LIMIT.false, c.self.view_is))))
    ∙ next_from c.args.at_end c.args.self.now (g.S.Source.left c.args.input.now) (line.Got c.in-Got.line) (sym c.in-Got.is ∙ c.in_ok-take_line.ensures.line tells)

pub returns-then-self-ge-LINE_COUNT_LIMIT-clause-next : goal.returns-then-self-ge-LINE_COUNT_LIMIT-clause-next
returns-then-self-ge-LINE_COUNT_LIMIT-clause-next g c = λ tells.
    sym (cond-false (nat_lt c.args.self.now LINE_COUNT_LIMIT) (Got c.in-Got.line) (Ends OverLines) (le-ltb _ _ (omega (arith, c.if-self-ge-LINE_COUNT_LIMIT.true, c.self.view_is))))
    ∙ next_from c.args.at_end c.args.self.now (g.S.Source.left c.args.input.now) (line.Got c.in-Got.line) (sym c.in-Got.is ∙ c.in_ok-take_line.ensures.line tells)
