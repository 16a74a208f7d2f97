-- Out of memory before anything was started.
use Rattle.project_reading.specs.Reading.{Found}
use Rattle.run_spec.specs.declared.fault.RunFault.TheVariants as fault
use Rattle.run_spec.specs.ChildJournal.{since}
use Rattle.run_build.proofs.OverStore.{since_itself}
use Rattle.generated_runs.proofs.Parts.{edited_fault}
use Rattle.generated_runs.proofs.running.test_read.Goals as goal

pub returns-in-Err-clause-ran : goal.returns-in-Err-clause-ran
returns-in-Err-clause-ran g c = λ records are tells.
    edited_fault (g.P.Procs.answer c.args.procs.now) c.args.options records c.args.first (Found c.args.read.now) fault.NoMemory (since (g.P.Procs.journal c.args.procs.now) (g.P.Procs.journal c.args.procs.now)) (since_itself (g.P.Procs.journal c.args.procs.now))
