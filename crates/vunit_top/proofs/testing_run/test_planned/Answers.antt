-- A run by what its build and its tests did.
use Rattle.std.proofs.Common.{refl}
use Rattle.outside.specs.FaultCounts.{with_build, with_output, with_reports}
use Rattle.vunit_top.specs.Acts.{of_each, seen}
use Rattle.vunit_top.specs.Reading.{testing_with}
use Rattle.vunit_top.proofs.TestTruths.{ran_ended, ran_faulted, tests_ended, tests_faulted, ended_counted, fault_counted}
use Rattle.vunit_top.proofs.testing_run.test_planned.Goals as goal

pub returns-in-Ok-clause-ran : goal.returns-in-Ok-clause-ran
returns-in-Ok-clause-ran g c = λ scan words tells runs.
    ran_ended scan _ (testing_with c.args.options.now c.args.read.now c.args.planned.runs c.args.planned.warnings) _ (g.D.Disk.moments c.args.disk.now) _ (g.met.D.Disk.sound c.args.disk.now) _ c.in-Ok.tested (c.in-Ok.ensures.told tells runs) words c.say_tested.result c.say_tested.ensures.answer
    (c.in-Ok.ensures.rests tells runs)

pub returns-in-Ok-clause-runs : goal.returns-in-Ok-clause-runs
returns-in-Ok-clause-runs g c =
    tests_ended
    (of_each g.D.Disk.tells g.P.Procs.tells g.O.Sink.tells g.R.Reports.tells)
    _ (testing_with c.args.options.now c.args.read.now c.args.planned.runs c.args.planned.warnings) _
    (seen (g.P.Procs.journal c.args.procs.now) (g.D.Disk.moments c.args.disk.now) (g.D.Disk.failed_disk_calls c.args.disk.now) (g.O.Sink.contents c.args.out.now) (g.R.Reports.report c.args.reports.now))
    (seen (g.P.Procs.journal c.test_over.new.procs) (g.D.Disk.moments c.test_over.new.disk) (g.D.Disk.failed_disk_calls c.test_over.new.disk) (g.O.Sink.contents c.say_tested.new.out) (g.R.Reports.report c.say_tested.new.reports))
    (g.met.D.Disk.sound c.args.disk.now) c.in-Ok.tested (λ d p. c.in-Ok.ensures.told d p) c.say_tested.result
    c.say_tested.ensures.says c.say_tested.ensures.answer c.say_tested.ensures.writes

pub returns-in-Err-clause-ran : goal.returns-in-Err-clause-ran
returns-in-Err-clause-ran g c = λ scan words tells runs.
    rw c.fault_outcome.ensures
    (ran_faulted scan _ (testing_with c.args.options.now c.args.read.now c.args.planned.runs c.args.planned.warnings) _ (g.D.Disk.moments c.args.disk.now) _ (g.met.D.Disk.sound c.args.disk.now) _ c.in-Err.fault (c.in-Err.ensures.told tells runs) words (c.in-Err.ensures.rests tells runs))

pub returns-in-Err-clause-runs : goal.returns-in-Err-clause-runs
returns-in-Err-clause-runs g c =
    tests_faulted
    (of_each g.D.Disk.tells g.P.Procs.tells g.O.Sink.tells g.R.Reports.tells)
    _ (testing_with c.args.options.now c.args.read.now c.args.planned.runs c.args.planned.warnings) _
    (seen (g.P.Procs.journal c.args.procs.now) (g.D.Disk.moments c.args.disk.now) (g.D.Disk.failed_disk_calls c.args.disk.now) (g.O.Sink.contents c.args.out.now) (g.R.Reports.report c.args.reports.now))
    (seen (g.P.Procs.journal c.test_over.new.procs) (g.D.Disk.moments c.test_over.new.disk) (g.D.Disk.failed_disk_calls c.test_over.new.disk) (g.O.Sink.contents c.args.out.now) (g.R.Reports.report c.args.reports.now))
    (g.met.D.Disk.sound c.args.disk.now) c.in-Err.fault (λ d p. c.in-Err.ensures.told d p) c.fault_outcome.result
    c.fault_outcome.ensures refl refl

pub returns-in-Err-clause-counted : goal.returns-in-Err-clause-counted
returns-in-Err-clause-counted g c = λ others. rw c.fault_outcome.ensures
    (fault_counted c.in-Err.fault _ _ (with_output g.O.Sink c.args.out.now (with_reports g.R.Reports c.args.reports.now others)) c.in-Err.ensures.explains c.in-Err.ensures.fell)

pub returns-in-Ok-clause-counted : goal.returns-in-Ok-clause-counted
returns-in-Ok-clause-counted g c = λ others.
    ended_counted _ _ (with_output g.O.Sink c.args.out.now (with_reports g.R.Reports c.args.reports.now others)) (with_output g.O.Sink c.say_tested.new.out (with_reports g.R.Reports c.say_tested.new.reports others)) _ c.in-Ok.ensures.explains
    (c.say_tested.ensures.counted (with_build g.P.Procs g.D.Disk c.test_over.new.procs c.test_over.new.disk others))
