-- The outcome and text of the second build and its tests.
use Rattle.std.proofs.Common.{Err}
use Rattle.run_spec.specs.declared.fault.RunFault.TheVariants as fault
use Rattle.run_spec.specs.ChildJournal.{since}
use Rattle.generated_runs.proofs.Parts.{edited_said, edited_faulted}
use Rattle.generated_runs.proofs.running.test_planned.Goals as goal

pub returns-in-Ok-tested_said-clause-ran : goal.returns-in-Ok-tested_said-clause-ran
returns-in-Ok-tested_said-clause-ran g c = λ records are tells.
    edited_said (g.P.Procs.answer c.args.procs.now) c.args.options records c.args.first c.args.read.now (since (g.P.Procs.journal c.args.procs.now) (g.P.Procs.journal c.test_second.new.procs))
    c.in-Ok.tested c.in-Ok-tested_said.said (c.in-Ok.ensures.ran records are tells) c.in-Ok-tested_said.ensures.said

pub returns-in-Ok-clause-ran : goal.returns-in-Ok-clause-ran
returns-in-Ok-clause-ran g c = λ records are tells.
    edited_faulted (g.P.Procs.answer c.args.procs.now) c.args.options records c.args.first c.args.read.now (since (g.P.Procs.journal c.args.procs.now) (g.P.Procs.journal c.test_second.new.procs))
    _ fault.NoMemory (c.in-Ok.ensures.ran records are tells)

pub returns-clause-ran : goal.returns-clause-ran
returns-clause-ran g c = λ records are tells.
    edited_faulted (g.P.Procs.answer c.args.procs.now) c.args.options records c.args.first c.args.read.now (since (g.P.Procs.journal c.args.procs.now) (g.P.Procs.journal c.test_second.new.procs))
    (Err c.in-Err.fault) c.in-Err.fault (c.in-Err.ensures.ran records are tells)
