-- What holds at each turn of the loop of `build_statuses`: the build is under way.
use Rattle.std.proofs.Common.{◌≡◌, length}
use Rattle.std.specs.Bool.{OnFalse}
use Rattle.outside.specs.FaultCounts.{build_counts}
use Rattle.run_scheduler.specs.Machines.{tickets_of, files_of, to_come}
use Rattle.run_spec.specs.Faults.{CountsBy}
use Rattle.run_build.specs.Requests.{IsGathered}
use Rattle.run_build.specs.UnderWay.{Goes}
use Rattle.run_build.proofs.builds.build_statuses.Given as goal

abbrev pub invariant-loop-at : goal.invariant-loop-at
invariant-loop-at g l = record {
  going : Goes g.P.Procs.tells g.D.Disk.tells (g.P.Procs.answer l.fn.procs) g.K.Records.records_of l.graph
      (record { latest_of = g.K.Records.latest_of l.fn.store; slots = l.fn.limit; keep_going = l.fn.keep_going; journal = g.P.Procs.journal l.fn.procs; moments = g.D.Disk.moments l.fn.disk })
      (record { machine = l.scheduler; statuses = l.statuses.items; first_fault = l.first_fault; latest_of = g.K.Records.latest_of l.store; broken = g.K.Records.broken l.store })
      (record { journal = g.P.Procs.journal l.procs; moments = g.D.Disk.moments l.disk });
  running : g.P.Procs.running l.procs ≡ tickets_of l.scheduler;
  same : g.P.Procs.answer l.procs ≡ g.P.Procs.answer l.fn.procs;
  files : files_of l.scheduler ≡ length l.graph;
  in_step : g.D.Disk.tells → OnFalse (g.K.Records.broken l.store) (g.K.Records.in_step l.store (g.D.Disk.moments l.disk).now);
  over : g.K.Records.is_over l.store l.graph;
  gathered : IsGathered (g.K.Records.latest_of l.store) l.graph l.gathered;
  counts : CountsBy l.first_fault (g.K.Records.broken l.store)
      (build_counts g.P.Procs g.D.Disk l.fn.procs l.fn.disk)
      (build_counts g.P.Procs g.D.Disk l.procs l.disk);
}

abbrev pub decreases-loop-at : goal.decreases-loop-at
decreases-loop-at g l = to_come l.scheduler
