-- A run with the tests that are selected.
use Rattle.std.proofs.Common.{sym}
use Rattle.vunit_top.specs.Acts.{of_each}
use Rattle.vunit_top.specs.Reading.{Runs, testing_of}
use Rattle.vunit_top.proofs.ActTruths.{none_run}
use Rattle.vunit_top.proofs.RunTruths.{runs_idle}
use Rattle.vunit_top.proofs.testing_run.test_project.Goals as goal

pub returns-in-Ok-clause-ran : goal.returns-in-Ok-clause-ran
returns-in-Ok-clause-ran g c = λ scan words d p. rw (sym c.in-Ok.ensures.runs, sym c.in-Ok.ensures.warnings) (c.test_planned.ensures.ran scan words d p)

pub returns-in-Ok-clause-runs : goal.returns-in-Ok-clause-runs
returns-in-Ok-clause-runs g c = rw (sym c.in-Ok.ensures.runs, sym c.in-Ok.ensures.warnings) c.test_planned.ensures.runs

pub returns-in-Err-clause-ran : goal.returns-in-Err-clause-ran
returns-in-Err-clause-ran g c = λ scan words d p.
    runs_idle scan _ (Runs (testing_of c.args.options.now c.args.read.now)) words _ _ (g.P.Procs.journal c.args.procs.now) (g.D.Disk.moments c.args.disk.now) (g.met.D.Disk.sound c.args.disk.now) (λ said. absurd said)

pub returns-in-Err-clause-runs : goal.returns-in-Err-clause-runs
returns-in-Err-clause-runs g c =
    none_run
    (of_each g.D.Disk.tells g.P.Procs.tells g.O.Sink.tells g.R.Reports.tells)
    _ (testing_of c.args.options.now c.args.read.now) (g.P.Procs.journal c.args.procs.now) (g.D.Disk.moments c.args.disk.now) (g.D.Disk.failed_disk_calls c.args.disk.now) (g.O.Sink.contents c.args.out.now) (g.R.Reports.report c.args.reports.now)
