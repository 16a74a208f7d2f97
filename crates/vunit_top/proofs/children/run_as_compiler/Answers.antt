use Rattle.std.proofs.Common.{sym, ◌∙◌}
use Rattle.child_tools.specs.Answers.{analysis}
use Rattle.vunit_top.proofs.Tops.{long_is_said, taken_said, too_long}
use Rattle.vunit_top.proofs.children.run_as_compiler.Goals as goal

pub returns-in-Ok-Got-clause-said : goal.returns-in-Ok-Got-clause-said
returns-in-Ok-Got-clause-said g c = λ scan is tells puts.
    rw (sym (taken_said (g.I.Source.left c.args.input.now) (analysis scan) c.in-Ok-Got.source (sym c.in-Ok-Got.field-0-is ∙ c.in-Ok-Got.ensures.input tells)), sym c.bytes.ensures) (c.answer_source.ensures.said scan is puts)

pub returns-in-Ok-TooLong-clause-said : goal.returns-in-Ok-TooLong-clause-said
returns-in-Ok-TooLong-clause-said g c = λ scan is tells puts. rw (too_long (g.I.Source.left c.args.input.now) (analysis scan) (sym c.in-Ok-TooLong.field-0-is ∙ c.in-Ok-TooLong.ensures.input tells)) (c.say.ensures.said puts)

pub returns-in-Ok-TooLong-clause-silent : goal.returns-in-Ok-TooLong-clause-silent
returns-in-Ok-TooLong-clause-silent g c = λ scan is tells none. absurd (long_is_said (analysis scan) (g.I.Source.left c.args.input.now) (sym c.in-Ok-TooLong.field-0-is ∙ c.in-Ok-TooLong.ensures.input tells) none)

pub returns-in-Ok-Got-clause-answer : goal.returns-in-Ok-Got-clause-answer
returns-in-Ok-Got-clause-answer g c = λ scan is tells.
    rw (sym (taken_said (g.I.Source.left c.args.input.now) (analysis scan) c.in-Ok-Got.source (sym c.in-Ok-Got.field-0-is ∙ c.in-Ok-Got.ensures.input tells)), sym c.bytes.ensures) (c.answer_source.ensures.answer scan is)

pub returns-in-Ok-TooLong-clause-answer : goal.returns-in-Ok-TooLong-clause-answer
returns-in-Ok-TooLong-clause-answer g c = λ scan is tells. rw (too_long (g.I.Source.left c.args.input.now) (analysis scan) (sym c.in-Ok-TooLong.field-0-is ∙ c.in-Ok-TooLong.ensures.input tells)) c.say.ensures.answer
