-- Answers to the goals of `test_opened`.
use Rattle.std.proofs.Common.{List, refl, sym, ap, subst, ◌∙◌}
use Rattle.base.specs.declared.child.Request.{Request}
use Rattle.base.specs.declared.child.Exit.{Exit}
use Rattle.base.specs.declared.child.Event.{Event}
use Rattle.outside.proofs.FaultCountLaws.{no_fall_twice}
use Rattle.run_spec.specs.TestJournal.{TestSetting}
use Rattle.run_tests.specs.Requests.{borrowed_files}
use Rattle.run_tests.specs.UnderWay.{tests_with}
use Rattle.run_spec.specs.Commits.{commits}
use Rattle.run_spec.specs.ChildJournal.{since}
use Rattle.run_spec.proofs.Parts.{all_compiled}
use Rattle.run_spec.specs.Histories.{work_over}
use Rattle.run_build.specs.Orders.{order_by}
use Rattle.run_build.proofs.OverStore.{rests_failed, rests_still}
use Rattle.run_tests.specs.Tested.{RanBuilt}
use Rattle.run_tests.proofs.TestsAfter.{same_borrowed, tested_after, compilers_after, build_failed}
use Rattle.run_tests.proofs.build_and_test.test_opened.Goals as goal

pub returns-in-Ok-clause-told : goal.returns-in-Ok-clause-told
returns-in-Ok-clause-told g c = λ tells runs.
    let setting : TestSetting = tests_with c.args.runs.now c.args.simulator.now (borrowed_files (g.K.Records.latest_of c.in-Ok.kept.store) c.args.graph.now) c.args.options.slots c.args.fail_fast in
    tested_after g.K.Records.records_of (g.P.Procs.answer c.args.procs.now) _ _ _ _ _ (g.P.Procs.journal c.args.procs.now) (g.P.Procs.journal c.build_kept.new.procs) (g.P.Procs.journal c.test_built.new.procs)
    c.in-Ok.kept.statuses c.test_built.result setting.built (c.in-Ok.ensures.follows runs) (c.in-Ok.ensures.told tells runs) (λ made. sym (same_borrowed (g.K.Records.latest_of c.in-Ok.kept.store) c.args.graph.now) ∙ c.in-Ok.ensures.borrowed tells runs made) g.P.Procs.tells runs
    (subst (λ (answer : Request → Exit). RanBuilt g.P.Procs.tells answer setting c.in-Ok.kept.statuses c.test_built.result (g.P.Procs.journal c.build_kept.new.procs) (g.P.Procs.journal c.test_built.new.procs))
    c.build_kept.ensures.same c.test_built.ensures.ran)

pub returns-in-Err-clause-told : goal.returns-in-Err-clause-told
returns-in-Err-clause-told g c = λ tells runs.
    build_failed g.K.Records.records_of (g.P.Procs.answer c.args.procs.now) _ _ _ _ _ (g.P.Procs.journal c.args.procs.now) (g.P.Procs.journal c.args.procs.now) (g.P.Procs.journal c.build_kept.new.procs)
    c.in-Err.fault (c.in-Err.ensures.told tells runs) (c.in-Err.ensures.no_tests runs)

pub returns-in-Ok-clause-fell : goal.returns-in-Ok-clause-fell
returns-in-Ok-clause-fell g c = no_fall_twice c.build_kept.ensures.fell (c.test_built.ensures.fell _)

pub returns-in-Ok-clause-rests : goal.returns-in-Ok-clause-rests
returns-in-Ok-clause-rests g c = λ tells runs clean resting none.
    let setting : TestSetting = tests_with c.args.runs.now c.args.simulator.now (borrowed_files (g.K.Records.latest_of c.in-Ok.kept.store) c.args.graph.now) c.args.options.slots c.args.fail_fast in
    let compilers = compilers_after g.K.Records.records_of (g.P.Procs.answer c.args.procs.now) (order_by c.args.options c.args.graph.now) (record { runs = c.args.runs.now; simulator = c.args.simulator.now; fail_fast = c.args.fail_fast }) _ (g.D.Disk.moments c.args.disk.now) (g.D.Disk.moments c.build_kept.new.disk) (g.P.Procs.journal c.args.procs.now) (g.P.Procs.journal c.build_kept.new.procs) (g.P.Procs.journal c.test_built.new.procs)
    c.in-Ok.kept.statuses c.test_built.result setting.built (c.in-Ok.ensures.follows runs) (c.in-Ok.ensures.told tells runs) (λ made. sym (same_borrowed (g.K.Records.latest_of c.in-Ok.kept.store) c.args.graph.now) ∙ c.in-Ok.ensures.borrowed tells runs made) g.P.Procs.tells runs
    (subst (λ (answer : Request → Exit). RanBuilt g.P.Procs.tells answer setting c.in-Ok.kept.statuses c.test_built.result (g.P.Procs.journal c.build_kept.new.procs) (g.P.Procs.journal c.test_built.new.procs))
    c.build_kept.ensures.same c.test_built.ensures.ran) in
    let work = work_over g.K.Records.records_of (order_by c.args.options c.args.graph.now) (g.D.Disk.moments c.args.disk.now).now in
    rests_still _ c.test_built.result _ _ _ (c.in-Ok.ensures.rests tells runs clean resting (ap (commits work) (sym compilers) ∙ none)) refl

pub returns-in-Err-clause-rests : goal.returns-in-Err-clause-rests
returns-in-Err-clause-rests g c = λ tells runs clean resting none.
    let events : List Event = since (g.P.Procs.journal c.args.procs.now) (g.P.Procs.journal c.build_kept.new.procs) in
    let work = work_over g.K.Records.records_of (order_by c.args.options c.args.graph.now) (g.D.Disk.moments c.args.disk.now).now in
    rests_failed _ _ _ _ (c.in-Err.ensures.rests tells runs clean resting (ap (commits work) (sym (all_compiled events (c.in-Err.ensures.no_tests runs))) ∙ none))
