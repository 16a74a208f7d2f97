-- The second build and its tests, from what they did over their disk.
use Rattle.std.proofs.Common.{List, Ok, Err, subst, false}
use Rattle.outside.specs.FaultCounts.{BuildFaultCounts, child_counts}
use Rattle.run_build.specs.Building.{has_risen}
use Rattle.memory_outside.specs.Disks.{moments_of}
use Rattle.run_spec.specs.ChildJournal.{since}
use Rattle.testbench_runs.specs.declared.runs.TestRun.{TestRun}
use Rattle.run_tests.specs.Tested.{TestsOver}
use Rattle.store.specs.Stored.{requests_in}
use Rattle.generated_runs.specs.Sources.{second_order}
use Rattle.generated_runs.proofs.Tests.{tested_ended, tested_faulted, over_records}
use Rattle.generated_runs.proofs.second_build.test_second.Goals as goal

pub returns-in-Ok-clause-ran : goal.returns-in-Ok-clause-ran
returns-in-Ok-clause-ran g c = λ records are tells.
    let failed = has_risen c.args.disk.now.calls.failed c.test_over.new.disk.calls.failed in
    let old = moments_of c.args.disk.now.log in
    let new = moments_of c.test_over.new.disk.log in
    let events = since (g.P.Procs.journal c.args.procs.now) (g.P.Procs.journal c.test_over.new.procs) in
    over_records (g.P.Procs.answer c.args.procs.now) c.args.options c.args.read.now records old.now (Ok c.in-Ok.tested) events are
    (tested_ended (g.P.Procs.answer c.args.procs.now) c.args.options c.args.read.now failed old new events c.in-Ok.tested
    (subst (λ (runs : List TestRun). TestsOver requests_in (g.P.Procs.answer c.args.procs.now) (second_order c.args.options c.args.read.now.graph) (record { runs = runs; simulator = c.args.read.now.project.simulator; fail_fast = false }) (Ok c.in-Ok.tested) failed old new events) c.requires.runs (c.in-Ok.ensures.told tt tells)))

pub returns-in-Err-clause-ran : goal.returns-in-Err-clause-ran
returns-in-Err-clause-ran g c = λ records are tells.
    let failed = has_risen c.args.disk.now.calls.failed c.test_over.new.disk.calls.failed in
    let old = moments_of c.args.disk.now.log in
    let new = moments_of c.test_over.new.disk.log in
    let events = since (g.P.Procs.journal c.args.procs.now) (g.P.Procs.journal c.test_over.new.procs) in
    over_records (g.P.Procs.answer c.args.procs.now) c.args.options c.args.read.now records old.now (Err c.own_fault.result) events are
    (tested_faulted (g.P.Procs.answer c.args.procs.now) c.args.options c.args.read.now failed old new events c.in-Err.fault c.own_fault.result
    (subst (λ (runs : List TestRun). TestsOver requests_in (g.P.Procs.answer c.args.procs.now) (second_order c.args.options c.args.read.now.graph) (record { runs = runs; simulator = c.args.read.now.project.simulator; fail_fast = false }) (Err c.in-Err.fault) failed old new events) c.requires.runs (c.in-Err.ensures.told tt tells)))

pub returns-in-Err-clause-explains : goal.returns-in-Err-clause-explains
returns-in-Err-clause-explains g c = λ disks.
    let first : BuildFaultCounts = record { children = child_counts g.P.Procs c.args.procs.now; disks = c.args.disk.now.calls.failed } in
    let now : BuildFaultCounts = record { children = child_counts g.P.Procs c.test_over.new.procs; disks = c.test_over.new.disk.calls.failed } in
    c.own_fault.ensures.same first now disks c.in-Err.ensures.explains
