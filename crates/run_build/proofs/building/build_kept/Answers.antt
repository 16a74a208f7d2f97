-- Answers to the goals of `build_kept`.
use Rattle.std.proofs.Common.{Ok, Err, false, not, ap}
use Rattle.run_build.proofs.OverStore.{since_itself, no_test_since, not_opened, opened_over, opened_borrowed, opened_untouched, none_tested, knows_if, usable_if, rests_failed, rests_still}
use Rattle.run_build.specs.Orders.{order_by}
use Rattle.run_build.proofs.building.build_kept.Goals as goal

pub returns-in-Ok-build_statuses-clause-told : goal.returns-in-Ok-build_statuses-clause-told
returns-in-Ok-build_statuses-clause-told g c = λ tells runs.
    let made = c.in-Ok-build_statuses.ensures in
    let opened = c.in-Ok.ensures.opens tells in
    let opening = c.in-Ok.ensures.in_step tells in
    let failures = g.D.Disk.failed_disk_calls in
    opened_over g.K.Records.records_of (g.P.Procs.answer c.args.procs.now) _ c.len.ensures.graph (g.D.Disk.moments c.args.disk.now) (g.D.Disk.moments c.open_store.new.disk) (g.D.Disk.moments c.build_statuses.new.disk)
    (g.met.D.Disk.sound c.build_statuses.new.disk) opened.follows opened.opening opened.base
    (g.K.Records.latest_of c.in-Ok.store) (g.K.Records.latest_of c.build_statuses.new.store) (record { durable = g.met.K.Records.durable _ _ opening; held = λ name. g.met.K.Records.held _ _ name opening })
    _ _ runs tells (Ok c.in-Ok-build_statuses.statuses) (g.P.Procs.journal c.args.procs.now) (g.P.Procs.journal c.build_statuses.new.procs) _ _
    made.ran made.recorded
    (knows_if _ _ (Ok c.in-Ok-build_statuses.statuses) _ made.usable (made.in_step tells) (λ in_step. record { durable = g.met.K.Records.durable _ _ in_step; held = λ name. g.met.K.Records.held _ _ name in_step }))
    made.usable
    (usable_if _ (failures c.args.disk.now) (failures c.open_store.new.disk) (failures c.build_statuses.new.disk) c.in-Ok.ensures.cause made.counts.breaks)

pub returns-in-Ok-build_statuses-clause-no_tests : goal.returns-in-Ok-build_statuses-clause-no_tests
returns-in-Ok-build_statuses-clause-no_tests g c = λ runs.
    let ran = c.in-Ok-build_statuses.ensures.ran in
    none_tested (g.P.Procs.journal c.args.procs.now) (g.P.Procs.journal c.build_statuses.new.procs) ran.events (ran.journal runs) (ran.lawful runs)

pub returns-in-Ok-build_statuses-clause-borrowed : goal.returns-in-Ok-build_statuses-clause-borrowed
returns-in-Ok-build_statuses-clause-borrowed g c = λ tells runs made_all.
    let made = c.in-Ok-build_statuses.ensures in
    let opened = c.in-Ok.ensures.opens tells in
    let opening = c.in-Ok.ensures.in_step tells in
    opened_borrowed g.K.Records.records_of (g.P.Procs.answer c.args.procs.now) _ c.len.ensures.graph (g.D.Disk.moments c.args.disk.now) (g.D.Disk.moments c.open_store.new.disk) (g.D.Disk.moments c.build_statuses.new.disk)
    (g.met.D.Disk.sound c.build_statuses.new.disk) opened.follows opened.opening opened.base
    (g.K.Records.latest_of c.in-Ok.store) (g.K.Records.latest_of c.build_statuses.new.store) (record { durable = g.met.K.Records.durable _ _ opening; held = λ name. g.met.K.Records.held _ _ name opening })
    _ _ runs tells (Ok c.in-Ok-build_statuses.statuses) (g.P.Procs.journal c.args.procs.now) (g.P.Procs.journal c.build_statuses.new.procs) _ false
    made.ran (ap not made.usable) c.in-Ok-build_statuses.statuses made.ran.says made_all

pub returns-in-Err-clause-told : goal.returns-in-Err-clause-told
returns-in-Err-clause-told g c = λ tells runs.
    let made = c.in-Err.ensures in
    let opened = c.in-Ok.ensures.opens tells in
    let opening = c.in-Ok.ensures.in_step tells in
    let failures = g.D.Disk.failed_disk_calls in
    opened_over g.K.Records.records_of (g.P.Procs.answer c.args.procs.now) _ c.len.ensures.graph (g.D.Disk.moments c.args.disk.now) (g.D.Disk.moments c.open_store.new.disk) (g.D.Disk.moments c.build_statuses.new.disk)
    (g.met.D.Disk.sound c.build_statuses.new.disk) opened.follows opened.opening opened.base
    (g.K.Records.latest_of c.in-Ok.store) (g.K.Records.latest_of c.build_statuses.new.store) (record { durable = g.met.K.Records.durable _ _ opening; held = λ name. g.met.K.Records.held _ _ name opening })
    _ _ runs tells (Err c.in-Err.fault) (g.P.Procs.journal c.args.procs.now) (g.P.Procs.journal c.build_statuses.new.procs) _ _
    made.ran made.recorded
    tt
    made.usable
    (usable_if _ (failures c.args.disk.now) (failures c.open_store.new.disk) (failures c.build_statuses.new.disk) c.in-Ok.ensures.cause made.counts.breaks)

pub returns-in-Err-clause-no_tests : goal.returns-in-Err-clause-no_tests
returns-in-Err-clause-no_tests g c = λ runs.
    let ran = c.in-Err.ensures.ran in
    none_tested (g.P.Procs.journal c.args.procs.now) (g.P.Procs.journal c.build_statuses.new.procs) ran.events (ran.journal runs) (ran.lawful runs)

pub returns-in-Err-NoMemory-clause-told : goal.returns-in-Err-NoMemory-clause-told
returns-in-Err-NoMemory-clause-told g c = λ tells runs.
    let opens = c.in-Err-NoMemory.ensures.opens tells in
    not_opened _ _ _ _ _ _ _ _ (since_itself (g.P.Procs.journal c.args.procs.now)) c.len.ensures.graph (g.met.D.Disk.sound c.open_store.new.disk) opens.follows opens.phases

pub returns-in-Err-DiskFailed-clause-told : goal.returns-in-Err-DiskFailed-clause-told
returns-in-Err-DiskFailed-clause-told g c = λ tells runs.
    let opens = c.in-Err-DiskFailed.ensures.opens tells in
    not_opened _ _ _ _ _ _ _ _ (since_itself (g.P.Procs.journal c.args.procs.now)) c.len.ensures.graph (g.met.D.Disk.sound c.open_store.new.disk) opens.follows opens.phases

pub returns-in-Err-NoMemory-clause-no_tests : goal.returns-in-Err-NoMemory-clause-no_tests
returns-in-Err-NoMemory-clause-no_tests g c = λ runs. no_test_since (g.P.Procs.journal c.args.procs.now)

pub returns-in-Err-DiskFailed-clause-no_tests : goal.returns-in-Err-DiskFailed-clause-no_tests
returns-in-Err-DiskFailed-clause-no_tests g c = λ runs. no_test_since (g.P.Procs.journal c.args.procs.now)

pub returns-in-Ok-build_statuses-clause-rests : goal.returns-in-Ok-build_statuses-clause-rests
returns-in-Ok-build_statuses-clause-rests g c = λ tells runs clean resting none.
    let made = c.in-Ok-build_statuses.ensures in
    let opened = c.in-Ok.ensures.opens tells in
    let opening = c.in-Ok.ensures.in_step tells in
    rests_still _ _ _ _ _ (c.in-Ok.ensures.rests tells clean resting)
    (opened_untouched g.K.Records.records_of (g.P.Procs.answer c.args.procs.now) (order_by c.args.options c.args.graph.now) c.len.ensures.graph (g.D.Disk.moments c.args.disk.now) (g.D.Disk.moments c.open_store.new.disk) (g.D.Disk.moments c.build_statuses.new.disk)
    (g.met.D.Disk.sound c.build_statuses.new.disk) opened.follows opened.opening opened.base
    (g.K.Records.latest_of c.in-Ok.store) (g.K.Records.latest_of c.build_statuses.new.store) (record { durable = g.met.K.Records.durable _ _ opening; held = λ name. g.met.K.Records.held _ _ name opening })
    _ _ runs tells (Ok c.in-Ok-build_statuses.statuses) (g.P.Procs.journal c.args.procs.now) (g.P.Procs.journal c.build_statuses.new.procs) _ false
    made.ran none)

pub returns-in-Err-clause-rests : goal.returns-in-Err-clause-rests
returns-in-Err-clause-rests g c = λ tells runs clean resting none.
    let made = c.in-Err.ensures in
    let opened = c.in-Ok.ensures.opens tells in
    let opening = c.in-Ok.ensures.in_step tells in
    rests_still _ _ _ _ _ (c.in-Ok.ensures.rests tells clean resting)
    (opened_untouched g.K.Records.records_of (g.P.Procs.answer c.args.procs.now) (order_by c.args.options c.args.graph.now) c.len.ensures.graph (g.D.Disk.moments c.args.disk.now) (g.D.Disk.moments c.open_store.new.disk) (g.D.Disk.moments c.build_statuses.new.disk)
    (g.met.D.Disk.sound c.build_statuses.new.disk) opened.follows opened.opening opened.base
    (g.K.Records.latest_of c.in-Ok.store) (g.K.Records.latest_of c.build_statuses.new.store) (record { durable = g.met.K.Records.durable _ _ opening; held = λ name. g.met.K.Records.held _ _ name opening })
    _ _ runs tells (Err c.in-Err.fault) (g.P.Procs.journal c.args.procs.now) (g.P.Procs.journal c.build_statuses.new.procs) _ false
    made.ran none)

pub returns-in-Err-NoMemory-clause-rests : goal.returns-in-Err-NoMemory-clause-rests
returns-in-Err-NoMemory-clause-rests g c = λ tells runs clean resting none. rests_failed _ _ _ _ (c.in-Err-NoMemory.ensures.rests tells clean resting)

pub returns-in-Err-DiskFailed-clause-rests : goal.returns-in-Err-DiskFailed-clause-rests
returns-in-Err-DiskFailed-clause-rests g c = λ tells runs clean resting none. rests_failed _ _ _ _ (c.in-Err-DiskFailed.ensures.rests tells clean resting)
