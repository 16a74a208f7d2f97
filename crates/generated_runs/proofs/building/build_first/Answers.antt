-- The first build, from what it did over its disk.
use Rattle.outside.specs.FaultCounts.{BuildFaultCounts, child_counts}
use Rattle.run_build.specs.Building.{has_risen}
use Rattle.memory_outside.specs.Disks.{moments_of}
use Rattle.memory_outside.specs.DiskLaws.{now_sound}
use Rattle.run_spec.specs.ChildJournal.{since}
use Rattle.generated_runs.proofs.Builds.{first_ended, first_faulted}
use Rattle.generated_runs.proofs.building.build_first.Goals as goal

pub returns-in-Ok-clause-ran : goal.returns-in-Ok-clause-ran
returns-in-Ok-clause-ran g c = λ tells.
    first_ended (g.P.Procs.answer c.args.procs.now) c.args.options c.args.graph.now (has_risen c.args.disk.now.calls.failed c.build_over.new.disk.calls.failed) (moments_of c.args.disk.now.log) (moments_of c.build_over.new.disk.log) (since (g.P.Procs.journal c.args.procs.now) (g.P.Procs.journal c.build_over.new.procs))
    (now_sound c.build_over.new.disk.log) c.in-Ok.statuses (c.in-Ok.ensures.told tt tells)

pub returns-in-Err-clause-ran : goal.returns-in-Err-clause-ran
returns-in-Err-clause-ran g c = λ tells.
    first_faulted (g.P.Procs.answer c.args.procs.now) c.args.options c.args.graph.now (has_risen c.args.disk.now.calls.failed c.build_over.new.disk.calls.failed) (moments_of c.args.disk.now.log) (moments_of c.build_over.new.disk.log) (since (g.P.Procs.journal c.args.procs.now) (g.P.Procs.journal c.build_over.new.procs))
    c.in-Err.fault c.own_fault.result (c.in-Err.ensures.told tt tells)

pub returns-in-Err-clause-explains : goal.returns-in-Err-clause-explains
returns-in-Err-clause-explains g c = λ disks.
    let first : BuildFaultCounts = record { children = child_counts g.P.Procs c.args.procs.now; disks = c.args.disk.now.calls.failed } in
    let now : BuildFaultCounts = record { children = child_counts g.P.Procs c.build_over.new.procs; disks = c.build_over.new.disk.calls.failed } in
    c.own_fault.ensures.same first now disks c.in-Err.ensures.explains
