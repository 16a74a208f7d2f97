-- What a run did, by its setting.
use Rattle.std.proofs.Common.{◌≡◌, Ok, Err, refl, subst}
use Rattle.base.specs.declared.limits.TheConstants.{FILE_LIMIT, SLOT_LIMIT}
use Rattle.base_outcomes.specs.declared.outcome.Limit.TheVariants as limits
use Rattle.project_reading.specs.Reading.{project_reading}
use Rattle.vunit_top.specs.Acts.{of_each}
use Rattle.vunit_top.specs.Did.{AreSourcesTold}
use Rattle.vunit_top.specs.Reading.{Over, setting_task}
use Rattle.run_build.proofs.OverStore.{no_test_since}
use Rattle.vunit_top.proofs.Tops.{over_slots, known_task, over_if_plain}
use Rattle.vunit_top.proofs.ActTruths.{acts_said, acts_by}
use Rattle.vunit_top.proofs.top.run_setting.Goals as goal

pub returns-then-setting-clause-acts : goal.returns-then-setting-clause-acts
returns-then-setting-clause-acts g c = λ scan is t words.
    acts_by _ _ scan _ (setting_task c.args.setting) (Err (Over limits.Slots SLOT_LIMIT)) (project_reading scan (g.T.Tree.file c.args.tree.now) (g.T.Tree.listed c.args.tree.now)) (over_slots c.args.setting c.if-setting.true)
    (acts_said
    (of_each g.D.Disk.tells g.P.Procs.tells g.O.Sink.tells g.R.Reports.tells)
    (of_each (c.args.disk.now ≡ c.args.disk.now) (c.args.procs.now ≡ c.args.procs.now) (c.say_limit.new.out ≡ c.args.out.now) (c.args.reports.now ≡ c.args.reports.now))
    scan _ (Over limits.Slots SLOT_LIMIT) words c.say_limit.result (g.P.Procs.journal c.args.procs.now) (g.D.Disk.moments c.args.disk.now) (g.met.D.Disk.sound c.args.disk.now)
    (g.D.Disk.failed_disk_calls c.args.disk.now) (g.O.Sink.contents c.args.out.now) (g.O.Sink.contents c.say_limit.new.out) (g.R.Reports.report c.args.reports.now)
    refl refl refl refl refl c.say_limit.ensures.said c.say_limit.ensures.answer)

pub returns-then-setting-gt0-clause-acts : goal.returns-then-setting-gt0-clause-acts
returns-then-setting-gt0-clause-acts g c = λ scan is t words.
    acts_by _ _ scan _ (setting_task c.args.setting) (Err (Over limits.Files FILE_LIMIT)) (project_reading scan (g.T.Tree.file c.args.tree.now) (g.T.Tree.listed c.args.tree.now)) (over_if_plain c.args.setting c.if-setting.false c.if-setting-gt0.true c.requires.plain)
    (acts_said
    (of_each g.D.Disk.tells g.P.Procs.tells g.O.Sink.tells g.R.Reports.tells)
    (of_each (c.args.disk.now ≡ c.args.disk.now) (c.args.procs.now ≡ c.args.procs.now) (c.say_limit-then-setting-gt0.new.out ≡ c.args.out.now) (c.args.reports.now ≡ c.args.reports.now))
    scan _ (Over limits.Files FILE_LIMIT) words c.say_limit-then-setting-gt0.result (g.P.Procs.journal c.args.procs.now) (g.D.Disk.moments c.args.disk.now) (g.met.D.Disk.sound c.args.disk.now)
    (g.D.Disk.failed_disk_calls c.args.disk.now) (g.O.Sink.contents c.args.out.now) (g.O.Sink.contents c.say_limit-then-setting-gt0.new.out) (g.R.Reports.report c.args.reports.now)
    refl refl refl refl refl c.say_limit-then-setting-gt0.ensures.said c.say_limit-then-setting-gt0.ensures.answer)

pub returns-clause-acts : goal.returns-clause-acts
returns-clause-acts g c = λ scan is t words.
    acts_by _ _ scan _ (setting_task c.args.setting) (Ok c.task_of-task.result) (project_reading scan (g.T.Tree.file c.args.tree.now) (g.T.Tree.listed c.args.tree.now)) (known_task c.args.setting c.if-setting.false c.task_of-task.result c.if-setting-gt0.false c.task_of-task.ensures.task)
    (c.run_sources.ensures.acts scan is (subst (AreSourcesTold g.T.Tree.tells) (known_task c.args.setting c.if-setting.false c.task_of-task.result c.if-setting-gt0.false c.task_of-task.ensures.task) t) words)

pub returns-then-setting-clause-no_tests : goal.returns-then-setting-clause-no_tests
returns-then-setting-clause-no_tests g c = λ runs none. no_test_since (g.P.Procs.journal c.args.procs.now)

pub returns-then-setting-gt0-clause-no_tests : goal.returns-then-setting-gt0-clause-no_tests
returns-then-setting-gt0-clause-no_tests g c = λ runs none. no_test_since (g.P.Procs.journal c.args.procs.now)
