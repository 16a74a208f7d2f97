use Rattle.std.proofs.Common.{refl, sym, ◌∙◌}
use Rattle.outside.specs.FaultCounts.{no_faults, with_input}
use Rattle.child_tools.specs.Benches.{simulation}
use Rattle.vunit_top.proofs.ActTruths.{no_early}
use Rattle.vunit_top.proofs.Tops.{long_is_said, no_results, taken_results, taken_said, too_long}
use Rattle.vunit_top.proofs.children.run_as_simulator.Goals as goal

pub returns-in-Ok-Got-clause-said : goal.returns-in-Ok-Got-clause-said
returns-in-Ok-Got-clause-said g c = λ tells puts.
    rw (sym (taken_said (g.I.Source.left c.args.input.now) simulation c.in-Ok-Got.request (sym c.in-Ok-Got.field-0-is ∙ c.in-Ok-Got.ensures.input tells)), sym c.bytes.ensures) (c.answer_bench.ensures.said puts)

pub returns-in-Ok-Got-clause-writes : goal.returns-in-Ok-Got-clause-writes
returns-in-Ok-Got-clause-writes g c = λ tells writes.
    rw (sym (taken_results (g.I.Source.left c.args.input.now) c.in-Ok-Got.request (sym c.in-Ok-Got.field-0-is ∙ c.in-Ok-Got.ensures.input tells)), sym c.bytes.ensures) (c.answer_bench.ensures.writes writes)

pub returns-in-Ok-TooLong-clause-said : goal.returns-in-Ok-TooLong-clause-said
returns-in-Ok-TooLong-clause-said g c = λ tells puts. rw (too_long (g.I.Source.left c.args.input.now) simulation (sym c.in-Ok-TooLong.field-0-is ∙ c.in-Ok-TooLong.ensures.input tells)) (c.say.ensures.said puts)

pub returns-in-Ok-TooLong-clause-silent : goal.returns-in-Ok-TooLong-clause-silent
returns-in-Ok-TooLong-clause-silent g c = λ tells none. absurd (long_is_said simulation (g.I.Source.left c.args.input.now) (sym c.in-Ok-TooLong.field-0-is ∙ c.in-Ok-TooLong.ensures.input tells) none)

pub returns-in-Ok-TooLong-clause-writes : goal.returns-in-Ok-TooLong-clause-writes
returns-in-Ok-TooLong-clause-writes g c = λ tells writes. rw (no_results (g.I.Source.left c.args.input.now) (sym c.in-Ok-TooLong.field-0-is ∙ c.in-Ok-TooLong.ensures.input tells)) refl

pub returns-in-Ok-Got-clause-counted : goal.returns-in-Ok-Got-clause-counted
returns-in-Ok-Got-clause-counted g c = λ others. rw c.in-Ok-Got.ensures.cause (c.answer_bench.ensures.counted (with_input g.I.Source c.args.input.now others))

pub returns-in-Ok-Got-clause-placed : goal.returns-in-Ok-Got-clause-placed
returns-in-Ok-Got-clause-placed g c = λ fault. absurd (no_early (c.answer_bench.ensures.counted no_faults) refl refl fault)

pub returns-in-Ok-Got-clause-answer : goal.returns-in-Ok-Got-clause-answer
returns-in-Ok-Got-clause-answer g c = λ tells.
    rw (sym (taken_said (g.I.Source.left c.args.input.now) simulation c.in-Ok-Got.request (sym c.in-Ok-Got.field-0-is ∙ c.in-Ok-Got.ensures.input tells)), sym c.bytes.ensures) c.answer_bench.ensures.answer

pub returns-in-Ok-TooLong-clause-answer : goal.returns-in-Ok-TooLong-clause-answer
returns-in-Ok-TooLong-clause-answer g c = λ tells. rw (too_long (g.I.Source.left c.args.input.now) simulation (sym c.in-Ok-TooLong.field-0-is ∙ c.in-Ok-TooLong.ensures.input tells)) c.say.ensures.answer
