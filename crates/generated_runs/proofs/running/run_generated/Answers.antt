-- From the first sources on, where they give nothing to build.
use Rattle.std.proofs.Common.{Err, []}
use Rattle.project_reading.specs.Sources.{LeadsTo}
use Rattle.run_spec.specs.declared.fault.RunFault.TheVariants as fault
use Rattle.run_spec.specs.ChildJournal.{since}
use Rattle.run_build.proofs.OverStore.{since_itself}
use Rattle.generated_runs.specs.Sources.{first_reading, second_reading}
use Rattle.generated_runs.proofs.Parts.{all_fault, all_stop}
use Rattle.generated_runs.proofs.running.run_generated.Goals as goal

pub returns-in-Ok-stop_said-clause-ran : goal.returns-in-Ok-stop_said-clause-ran
returns-in-Ok-stop_said-clause-ran g c = λ scan is tells.
    let journal = g.P.Procs.journal c.args.procs.now in
    let led : LeadsTo (first_reading scan c.args.options) (Err c.in-Err.stop) = c.in-Err.ensures.reading scan is in
    all_stop (g.P.Procs.answer c.args.procs.now) c.args.options (second_reading scan c.args.options) (first_reading scan c.args.options) c.in-Ok-stop_said.said (since journal journal) (since_itself journal)
    (λ read found. c.in-Ok-stop_said.ensures.none (first_reading scan c.args.options) read led found)
    (c.in-Ok-stop_said.ensures.first c.args.options (first_reading scan c.args.options) (second_reading scan c.args.options) [] [] led)

pub returns-in-Err-stop_said-clause-ran : goal.returns-in-Err-stop_said-clause-ran
returns-in-Err-stop_said-clause-ran g c = λ scan is tells.
    all_fault (g.P.Procs.answer c.args.procs.now) c.args.options (second_reading scan c.args.options) (first_reading scan c.args.options) fault.NoMemory (since (g.P.Procs.journal c.args.procs.now) (g.P.Procs.journal c.args.procs.now)) (since_itself (g.P.Procs.journal c.args.procs.now))
