-- Answers to the goals of `lose`.
use Rattle.std.proofs.Common.{ap}
use Rattle.std.specs.Prelude.{is_some}
use Rattle.run_tests.proofs.TestsThen.{lost_then}
use Rattle.run_tests.proofs.ends.lose.Goals as goal

pub returns-clause-goes : goal.returns-clause-goes
returns-clause-goes c = λ setting events found is.
    lost_then setting events c.args.scheduler.now found _ is (is_some c.note.new.first_fault) (ap is_some c.note.ensures) c.record_loss-at.new.self c.args.ticket (c.record_loss-at.ensures.lawful _ _ is.in_step) (c.record_loss-at.ensures.in_step _ _ is.in_step)
