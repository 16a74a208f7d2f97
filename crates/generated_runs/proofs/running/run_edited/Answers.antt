-- From the edited sources on.
use Rattle.std.proofs.Common.{◌≡◌, ℕ, Err, sym, subst}
use Rattle.project_reading.specs.Reading.{SourceReading, Found}
use Rattle.project_reading.specs.Sources.{LeadsTo}
use Rattle.project_reading.specs.declared.query.QueryKind.TheVariants.{Tests}
use Rattle.run_spec.specs.declared.fault.RunFault.TheVariants as fault
use Rattle.run_spec.specs.ChildJournal.{since}
use Rattle.run_build.proofs.OverStore.{since_itself}
use Rattle.generated_project.specs.Files.{generated_files}
use Rattle.generated_runs.specs.Sources.{files_reading, second_reading, query_for}
use Rattle.generated_runs.specs.Ran.{RanEdited}
use Rattle.generated_runs.proofs.Parts.{edited_fault, edited_stop}
use Rattle.generated_runs.proofs.running.run_edited.Goals as goal

pub returns-in-Ok-clause-ran : goal.returns-in-Ok-clause-ran
returns-in-Ok-clause-ran g c = λ scan is records are tells.
    let reads : second_reading scan c.args.options ≡ Found c.in-Ok.read =
    subst (λ (n : ℕ). files_reading scan (generated_files c.args.options.packages n) (query_for Tests) ≡ Found c.in-Ok.read) c.edited_package-edited.ensures (c.in-Ok.ensures.reading scan is) in
    subst (λ (r : SourceReading). RanEdited (g.P.Procs.answer c.args.procs.now) c.args.options r records c.args.first c.test_read.result (since (g.P.Procs.journal c.args.procs.now) (g.P.Procs.journal c.test_read.new.procs))) (sym reads)
    (c.test_read.ensures.ran records are tells)

pub returns-in-Ok-stop_said-clause-ran : goal.returns-in-Ok-stop_said-clause-ran
returns-in-Ok-stop_said-clause-ran g c = λ scan is records are tells.
    let journal = g.P.Procs.journal c.args.procs.now in
    let led : LeadsTo (second_reading scan c.args.options) (Err c.in-Err.stop) =
    subst (λ (n : ℕ). LeadsTo (files_reading scan (generated_files c.args.options.packages n) (query_for Tests)) (Err c.in-Err.stop)) c.edited_package-edited.ensures (c.in-Err.ensures.reading scan is) in
    edited_stop (g.P.Procs.answer c.args.procs.now) c.args.options records c.args.first (second_reading scan c.args.options) c.in-Ok-stop_said.said (since journal journal) (since_itself journal)
    (λ read found. c.in-Ok-stop_said.ensures.none (second_reading scan c.args.options) read led found)
    (c.in-Ok-stop_said.ensures.edited c.args.options c.args.first records (second_reading scan c.args.options) (since journal journal) led)

pub returns-in-Err-stop_said-clause-ran : goal.returns-in-Err-stop_said-clause-ran
returns-in-Err-stop_said-clause-ran g c = λ scan is records are tells.
    edited_fault (g.P.Procs.answer c.args.procs.now) c.args.options records c.args.first (second_reading scan c.args.options) fault.NoMemory (since (g.P.Procs.journal c.args.procs.now) (g.P.Procs.journal c.args.procs.now)) (since_itself (g.P.Procs.journal c.args.procs.now))
