-- What a run did, by its job and the sources that it read.
use Rattle.std.proofs.Common.{◌≡◌, Err, refl, subst, sym, arith}
use Rattle.outside.specs.FaultCounts.{no_faults, with_build, with_reports, with_tree}
use Rattle.project_reading.specs.Reading.{project_reading}
use Rattle.project_reading.specs.Sources.{LeadsTo}
use Rattle.project_reading.specs.declared.query.Query.{Query}
use Rattle.vunit_top.specs.Acts.{of_each}
use Rattle.vunit_top.specs.Reading.{task_reading, query_of}
use Rattle.run_build.proofs.OverStore.{no_test_since}
use Rattle.vunit_top.proofs.ActTruths.{acts_idle, no_early, stop_later}
use Rattle.vunit_top.proofs.top.run_sources.Goals as goal

pub returns-in-Ok-clause-acts : goal.returns-in-Ok-clause-acts
returns-in-Ok-clause-acts g c = λ scan is t words. rw (sym c.query_of-query.ensures, c.in-Ok.ensures.reading scan is t) (c.run_task.ensures.acts scan words)

pub returns-in-Ok-clause-placed : goal.returns-in-Ok-clause-placed
returns-in-Ok-clause-placed g c = λ fault. absurd (no_early (c.run_task.ensures.counted no_faults) refl refl fault)

pub returns-in-Ok-clause-counted : goal.returns-in-Ok-clause-counted
returns-in-Ok-clause-counted g c = λ others. rw c.in-Ok.ensures.cause (c.run_task.ensures.counted (with_tree g.T.Tree c.args.tree.now others))

pub returns-in-Err-clause-counted : goal.returns-in-Err-clause-counted
returns-in-Err-clause-counted g c = λ others. record {
  cause = c.say_stop.ensures.cause (with_build g.P.Procs g.D.Disk c.args.procs.now c.args.disk.now (with_reports g.R.Reports c.args.reports.now others)) _ _ c.in-Err.ensures.cause;
  stand = record {
    tree = stop_later c.in-Err.stop _ _ c.in-Err.ensures.cause;
    build = record { children = record { starts = omega arith; losses = omega arith }; disks = omega arith };
    out = c.say_stop.ensures.stand;
    report = omega arith;
    input = omega arith;
  };
}

pub returns-in-Err-clause-acts : goal.returns-in-Err-clause-acts
returns-in-Err-clause-acts g c = λ scan is t words.
    let found = project_reading scan (g.T.Tree.file c.args.tree.now) (g.T.Tree.listed c.args.tree.now) (query_of c.args.task) in
    let led : LeadsTo found (Err c.in-Err.stop) = subst (λ (query : Query). LeadsTo (project_reading scan (g.T.Tree.file c.args.tree.now) (g.T.Tree.listed c.args.tree.now) query) (Err c.in-Err.stop)) c.query_of-query.ensures (c.in-Err.ensures.reading scan is t) in
    acts_idle
    (of_each g.D.Disk.tells g.P.Procs.tells g.O.Sink.tells g.R.Reports.tells)
    (of_each (c.args.disk.now ≡ c.args.disk.now) (c.args.procs.now ≡ c.args.procs.now) (c.say_stop.new.out ≡ c.args.out.now) (c.args.reports.now ≡ c.args.reports.now))
    scan _ (task_reading c.args.task found) words c.say_stop.result (g.P.Procs.journal c.args.procs.now) (g.D.Disk.moments c.args.disk.now) (g.met.D.Disk.sound c.args.disk.now)
    (g.D.Disk.failed_disk_calls c.args.disk.now) (g.O.Sink.contents c.args.out.now) (g.O.Sink.contents c.say_stop.new.out) (g.R.Reports.report c.args.reports.now) (g.R.Reports.report c.args.reports.now)
    (c.say_stop.ensures.rests c.args.task found led) refl refl (λ none. refl)
    (c.say_stop.ensures.silent c.args.task found led)
    (λ puts. c.say_stop.ensures.says puts c.args.task found led)
    (c.say_stop.ensures.answers c.args.task found led)
    (λ puts. c.say_stop.ensures.says_build puts c.args.task found led)
    (λ writes path text exports. c.say_stop.ensures.writes c.args.task found led path text exports (g.R.Reports.report c.args.reports.now))
    (λ puts. c.say_stop.ensures.says_run puts c.args.task found led)
    (λ writes asked runs said. c.say_stop.ensures.unwritten c.args.task found led asked runs asked.report said (g.R.Reports.report c.args.reports.now))

pub returns-in-Err-clause-no_tests : goal.returns-in-Err-clause-no_tests
returns-in-Err-clause-no_tests g c = λ runs none. no_test_since (g.P.Procs.journal c.args.procs.now)
