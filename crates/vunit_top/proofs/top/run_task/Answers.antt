-- What a run did with the sources, by its job.
use Rattle.std.proofs.Common.{◌≡◌, refl}
use Rattle.outside.specs.FaultCounts.{with_reports}
use Rattle.report.specs.Texts.{warning_text}
use Rattle.report.specs.Export.{export_text}
use Rattle.run_build.specs.Orders.{order_by}
use Rattle.vunit_top.specs.Acts.{of_each, seen}
use Rattle.vunit_top.specs.Reading.{Lists, ListsTests, chosen, testing_of}
use Rattle.run_build.proofs.OverStore.{no_test_since}
use Rattle.vunit_top.proofs.ActTruths.{acts_said, acts_export, acts_built, acts_tested}
use Rattle.vunit_top.proofs.top.run_task.Goals as goal

pub returns-in-ListFiles-clause-acts : goal.returns-in-ListFiles-clause-acts
returns-in-ListFiles-clause-acts g c = λ scan words.
    rw c.in-ListFiles.is
    (acts_said
    (of_each g.D.Disk.tells g.P.Procs.tells g.O.Sink.tells g.R.Reports.tells)
    (of_each (c.args.disk.now ≡ c.args.disk.now) (c.args.procs.now ≡ c.args.procs.now) (c.say_files.new.out ≡ c.args.out.now) (c.args.reports.now ≡ c.args.reports.now))
    scan _ (Lists c.args.read.now.graph) words c.say_files.result (g.P.Procs.journal c.args.procs.now) (g.D.Disk.moments c.args.disk.now) (g.met.D.Disk.sound c.args.disk.now)
    (g.D.Disk.failed_disk_calls c.args.disk.now) (g.O.Sink.contents c.args.out.now) (g.O.Sink.contents c.say_files.new.out) (g.R.Reports.report c.args.reports.now)
    refl refl refl refl refl c.say_files.ensures.said c.say_files.ensures.answer)

pub returns-in-ListTests-clause-acts : goal.returns-in-ListTests-clause-acts
returns-in-ListTests-clause-acts g c = λ scan words.
    rw c.in-ListTests.is
    (acts_said
    (of_each g.D.Disk.tells g.P.Procs.tells g.O.Sink.tells g.R.Reports.tells)
    (of_each (c.args.disk.now ≡ c.args.disk.now) (c.args.procs.now ≡ c.args.procs.now) (c.list_chosen.new.out ≡ c.args.out.now) (c.args.reports.now ≡ c.args.reports.now))
    scan _ (ListsTests (chosen c.in-ListTests.query.patterns c.args.read.now.tests)) words c.list_chosen.result (g.P.Procs.journal c.args.procs.now) (g.D.Disk.moments c.args.disk.now) (g.met.D.Disk.sound c.args.disk.now)
    (g.D.Disk.failed_disk_calls c.args.disk.now) (g.O.Sink.contents c.args.out.now) (g.O.Sink.contents c.list_chosen.new.out) (g.R.Reports.report c.args.reports.now)
    refl refl refl refl refl c.list_chosen.ensures.said c.list_chosen.ensures.answer)

pub returns-in-Export-clause-acts : goal.returns-in-Export-clause-acts
returns-in-Export-clause-acts g c = λ scan words.
    rw c.in-Export.is
    (acts_export
    (of_each g.D.Disk.tells g.P.Procs.tells g.O.Sink.tells g.R.Reports.tells)
    (of_each (c.args.disk.now ≡ c.args.disk.now) (c.args.procs.now ≡ c.args.procs.now) (c.args.out.now ≡ c.args.out.now) (c.export_chosen.new.reports ≡ c.args.reports.now))
    scan _ c.in-Export.path (export_text c.args.read.now.graph c.args.read.now.project.files (chosen c.in-Export.query.patterns c.args.read.now.tests)) words c.export_chosen.result (g.P.Procs.journal c.args.procs.now) (g.D.Disk.moments c.args.disk.now) (g.met.D.Disk.sound c.args.disk.now)
    (g.D.Disk.failed_disk_calls c.args.disk.now) (g.O.Sink.contents c.args.out.now) (g.R.Reports.report c.args.reports.now) (g.R.Reports.report c.export_chosen.new.reports)
    refl refl refl (c.export_chosen.ensures.said (g.O.Sink.contents c.args.out.now)) c.export_chosen.ensures.answer c.export_chosen.ensures.writes)

pub returns-in-Build-clause-acts : goal.returns-in-Build-clause-acts
returns-in-Build-clause-acts g c = λ scan words.
    rw c.in-Build.is
    (acts_built
    (of_each g.D.Disk.tells g.P.Procs.tells g.O.Sink.tells g.R.Reports.tells)
    (of_each (c.build_project.new.disk ≡ c.args.disk.now) (c.build_project.new.procs ≡ c.args.procs.now) (c.build_project.new.out ≡ c.args.out.now) (c.args.reports.now ≡ c.args.reports.now))
    scan _ (order_by c.in-Build.options c.args.read.now.graph) (warning_text c.args.read.now.project.files c.args.read.now.warnings) words c.build_project.result
    (seen (g.P.Procs.journal c.args.procs.now) (g.D.Disk.moments c.args.disk.now) (g.D.Disk.failed_disk_calls c.args.disk.now) (g.O.Sink.contents c.args.out.now) (g.R.Reports.report c.args.reports.now))
    (seen (g.P.Procs.journal c.build_project.new.procs) (g.D.Disk.moments c.build_project.new.disk) (g.D.Disk.failed_disk_calls c.build_project.new.disk) (g.O.Sink.contents c.build_project.new.out) (g.R.Reports.report c.args.reports.now))
    refl (c.build_project.ensures.ran scan words) c.build_project.ensures.says c.build_project.ensures.answers c.build_project.ensures.no_tests)

pub returns-in-Build-clause-counted : goal.returns-in-Build-clause-counted
returns-in-Build-clause-counted g c = λ others. c.build_project.ensures.counted (with_reports g.R.Reports c.args.reports.now others)

pub returns-in-ListFiles-clause-no_tests : goal.returns-in-ListFiles-clause-no_tests
returns-in-ListFiles-clause-no_tests g c = λ runs none. no_test_since (g.P.Procs.journal c.args.procs.now)

pub returns-in-ListTests-clause-no_tests : goal.returns-in-ListTests-clause-no_tests
returns-in-ListTests-clause-no_tests g c = λ runs none. no_test_since (g.P.Procs.journal c.args.procs.now)

pub returns-in-Export-clause-no_tests : goal.returns-in-Export-clause-no_tests
returns-in-Export-clause-no_tests g c = λ runs none. no_test_since (g.P.Procs.journal c.args.procs.now)

pub returns-in-Run-clause-acts : goal.returns-in-Run-clause-acts
returns-in-Run-clause-acts g c = λ scan words.
    rw c.in-Run.is
    (acts_tested
    (of_each g.D.Disk.tells g.P.Procs.tells g.O.Sink.tells g.R.Reports.tells)
    (of_each (c.test_project.new.disk ≡ c.args.disk.now) (c.test_project.new.procs ≡ c.args.procs.now) (c.test_project.new.out ≡ c.args.out.now) (c.test_project.new.reports ≡ c.args.reports.now))
    scan _ (testing_of c.in-Run.options c.args.read.now) words c.test_project.result
    (seen (g.P.Procs.journal c.args.procs.now) (g.D.Disk.moments c.args.disk.now) (g.D.Disk.failed_disk_calls c.args.disk.now) (g.O.Sink.contents c.args.out.now) (g.R.Reports.report c.args.reports.now))
    (seen (g.P.Procs.journal c.test_project.new.procs) (g.D.Disk.moments c.test_project.new.disk) (g.D.Disk.failed_disk_calls c.test_project.new.disk) (g.O.Sink.contents c.test_project.new.out) (g.R.Reports.report c.test_project.new.reports))
    c.test_project.ensures.unwritten (c.test_project.ensures.ran scan words) c.test_project.ensures.runs)
