-- Answers to the goals of `end_one`.
use Rattle.std.proofs.Common.{◌++◌, [], ◌∷◌, List, ℕ, Result, Err, sym, subst}
use Rattle.base.specs.declared.child.Event.{Event}
use Rattle.base.specs.declared.child.Event.TheVariants as event
use Rattle.outside.specs.Children.{end_event}
use Rattle.outside.specs.declared.procs.Ended.{Ended}
use Rattle.outside.specs.declared.procs.WaitFault.{WaitFault}
use Rattle.outside.specs.Counts.{ChildCounts}
use Rattle.outside.specs.Records.{Record}
use Rattle.run_build.specs.Commits.{HoldsFirst}
use Rattle.run_spec.specs.Faults.{CountsBy}
use Rattle.run_build.specs.UnderWay.{BuildState, work_from}
use Rattle.run_build.proofs.UnderWayThen.{commits_fault}
use Rattle.run_build.proofs.JournalThen.{journal_ended, journal_lost}
use Rattle.run_build.proofs.ends.end_one.Goals as goal

pub returns-in-Ok-clause-goes : goal.returns-in-Ok-clause-goes
returns-in-Ok-clause-goes g c = λ from goes.
    let taken = c.take_exit.ensures.goes from goes.events goes.acknowledged goes.under_way goes.images in
    record {
      events = goes.events ++ event.Ended c.in-Ok.field-0.ticket c.in-Ok.field-0.exit ∷ [];
      acknowledged = taken.acknowledged;
      under_way = taken.under_way;
      journal = λ tells. journal_ended (g.P.Procs.answer c.args.procs.now) (work_from c.args.graph.now from) goes.events from.journal (g.P.Procs.journal c.args.procs.now) (goes.journal tells) c.in-Ok.field-0.ticket c.in-Ok.field-0.exit (g.P.Procs.journal c.wait_any.new.self)
          (c.take_exit.ensures.runs _ _ goes.under_way.in_step) (c.in-Ok.ensures.exit tells) (c.in-Ok.ensures.journal tells);
      images = taken.images;
    }

pub returns-in-Err-clause-goes : goal.returns-in-Err-clause-goes
returns-in-Err-clause-goes g c = λ from goes.
    let lost : Event = end_event (Err c.in-Err.fault) in
    let before : BuildState = record { machine = c.args.scheduler.now; statuses = c.args.statuses.now.items; first_fault = c.args.first_fault.now; latest_of = g.K.Records.latest_of c.args.store.now; broken = g.K.Records.broken c.args.store.now } in
    record {
      events = goes.events ++ lost ∷ [];
      acknowledged = goes.acknowledged;
      under_way = c.lose_by.ensures.goes c.args.graph.now from goes.events goes.acknowledged before goes.under_way;
      journal = λ tells. journal_lost (g.P.Procs.answer c.args.procs.now) (work_from c.args.graph.now from) goes.events from.journal (g.P.Procs.journal c.args.procs.now) (goes.journal tells) c.in-Err.fault (g.P.Procs.journal c.wait_any.new.self)
          (c.in-Err.ensures.journal tells);
      images = λ tells.
          subst (λ (more : List Record). HoldsFirst goes.acknowledged before.broken more g.K.Records.records_of from.moments (g.D.Disk.moments c.args.disk.now))
          (sym (commits_fault c.args.graph.now from goes.events goes.acknowledged before goes.under_way c.in-Err.fault))
          (goes.images tells);
    }

pub returns-in-Err-clause-counts : goal.returns-in-Err-clause-counts
returns-in-Err-clause-counts g c = λ first counts.
    let cause = subst (λ (r : Result Ended WaitFault). ChildCounts r (g.P.Procs.lost_children c.args.procs.now) (g.P.Procs.lost_children c.wait_any.new.self)) c.in-Err.is c.wait_any.ensures.cause in
    subst (λ (starts : ℕ). CountsBy c.lose_by.new.first_fault (g.K.Records.broken c.args.store.now) first (record { children = record { starts = starts; losses = g.P.Procs.lost_children c.wait_any.new.self }; disks = g.D.Disk.failed_disk_calls c.args.disk.now }))
    (sym c.wait_any.ensures.starts) (c.lose_by.ensures.counts first _ (g.P.Procs.lost_children c.wait_any.new.self) (g.K.Records.broken c.args.store.now) cause counts)
