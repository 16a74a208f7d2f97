use Rattle.std.proofs.Common.{Some, ap, arith, ◌∙◌}
use Rattle.vunit_arguments.proofs.Numbers.{number_none, number_some}
use Rattle.vunit_arguments.proofs.reading.number_of.Goals as goal

pub returns-in-Ok : goal.returns-in-Ok
returns-in-Ok c =
    let read = c.in-Ok.ensures.value.0 in
    let positive = c.in-Ok.number-test.1 in
    ap Some read.1 ∙ number_some c.args.text.now (read.0.0, read.0.1, omega (arith, read.1, positive), omega (arith, read.0.1))

pub returns-in-Err : goal.returns-in-Err
returns-in-Err c = number_none c.args.text.now (λ is. c.in-Err.ensures.value.0 (is.0, is.1))
