-- Answers to the goals of `test_over`: what is announced changes nothing that children tell.
use Rattle.std.proofs.Common.{◌≡◌, ℕ, List, ◌++◌, subst, subst₂, ◌∙◌}
use Rattle.base.specs.declared.child.Request.{Request}
use Rattle.base.specs.declared.child.Exit.{Exit}
use Rattle.base.specs.declared.child.Event.{Event}
use Rattle.outside.specs.FaultCounts.{NoBuildCountFell, build_counts}
use Rattle.run_spec.specs.ChildJournal.{since}
use Rattle.run_spec.specs.JournalParts.{compile_part}
use Rattle.run_spec.specs.Faults.{Explains, fault_of}
use Rattle.run_build.specs.Building.{RestsOver, has_risen}
use Rattle.run_build.specs.Orders.{order_by}
use Rattle.run_tests.specs.Tested.{TestsOver}
use Rattle.run_tests.proofs.build_and_test.test_over.Goals as goal

pub returns-clause-same : goal.returns-clause-same
returns-clause-same g c = c.test_opened.ensures.same ∙ c.announce_long_runs.ensures.same

pub returns-clause-follows : goal.returns-clause-follows
returns-clause-follows g c = λ tells.
    subst (λ (journal : List Event). g.P.Procs.journal c.test_opened.new.procs ≡ journal ++ since journal (g.P.Procs.journal c.test_opened.new.procs))
    c.announce_long_runs.ensures.journal (c.test_opened.ensures.follows tells)

pub returns-clause-told : goal.returns-clause-told
returns-clause-told g c = λ tells runs.
    subst (λ (answer : Request → Exit). TestsOver g.K.Records.records_of answer (order_by c.args.options c.args.graph.now) (record { runs = c.args.runs.now; simulator = c.args.simulator.now; fail_fast = c.args.fail_fast }) c.test_opened.result
    (has_risen (g.D.Disk.failed_disk_calls c.args.disk.now) (g.D.Disk.failed_disk_calls c.test_opened.new.disk)) (g.D.Disk.moments c.args.disk.now) (g.D.Disk.moments c.test_opened.new.disk)
    (since (g.P.Procs.journal c.args.procs.now) (g.P.Procs.journal c.test_opened.new.procs))) c.announce_long_runs.ensures.same
    (subst (λ (journal : List Event). TestsOver g.K.Records.records_of (g.P.Procs.answer c.announce_long_runs.new.procs) (order_by c.args.options c.args.graph.now) (record { runs = c.args.runs.now; simulator = c.args.simulator.now; fail_fast = c.args.fail_fast }) c.test_opened.result
    (has_risen (g.D.Disk.failed_disk_calls c.args.disk.now) (g.D.Disk.failed_disk_calls c.test_opened.new.disk)) (g.D.Disk.moments c.args.disk.now) (g.D.Disk.moments c.test_opened.new.disk)
    (since journal (g.P.Procs.journal c.test_opened.new.procs))) c.announce_long_runs.ensures.journal (c.test_opened.ensures.told tells runs))

pub returns-clause-rests : goal.returns-clause-rests
returns-clause-rests g c = λ tells runs.
    subst (λ (journal : List Event). RestsOver g.K.Records.records_of g.K.Records.is_resting (order_by c.args.options c.args.graph.now) c.test_opened.result (g.D.Disk.moments c.args.disk.now) (g.D.Disk.moments c.test_opened.new.disk)
    (compile_part (since journal (g.P.Procs.journal c.test_opened.new.procs)))) c.announce_long_runs.ensures.journal (c.test_opened.ensures.rests tells runs)

pub returns-clause-fell : goal.returns-clause-fell
returns-clause-fell g c =
    subst₂ (λ (starts losses : ℕ). NoBuildCountFell (record { children = record { starts = starts; losses = losses }; disks = g.D.Disk.failed_disk_calls c.args.disk.now }) (build_counts g.P.Procs g.D.Disk c.test_opened.new.procs c.test_opened.new.disk))
    c.announce_long_runs.ensures.starts c.announce_long_runs.ensures.children c.test_opened.ensures.fell

pub returns-clause-explains : goal.returns-clause-explains
returns-clause-explains g c =
    subst₂ (λ (starts losses : ℕ). Explains (fault_of c.test_opened.result) (record { children = record { starts = starts; losses = losses }; disks = g.D.Disk.failed_disk_calls c.args.disk.now }) (build_counts g.P.Procs g.D.Disk c.test_opened.new.procs c.test_opened.new.disk))
    c.announce_long_runs.ensures.starts c.announce_long_runs.ensures.children c.test_opened.ensures.explains
