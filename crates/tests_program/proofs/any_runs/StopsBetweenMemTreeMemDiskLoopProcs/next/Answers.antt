-- What a stop leaves is one of the images of a moment of the last run.
use Rattle.std.proofs.Common.{[], refl, sym, ap, subst}
use Rattle.outside.specs.Disks.{DiskState, Moments, settled_disk}
use Rattle.memory_outside.specs.Disks.{moments_of}
use Rattle.headline.specs.Promise.{LeavesDisk}
use Rattle.tests_program.proofs.Stopping.{stop_leaves}
use Rattle.tests_program.proofs.any_runs.StopsBetweenMemTreeMemDiskLoopProcs.next.Goals as goal

pub returns-clause-left : goal.returns-clause-left
returns-clause-left c = λ t d p.
    subst (λ (state : DiskState). LeavesDisk (record { past = []; now = settled_disk (record { a = c.args.self.now.a.items; b = c.args.self.now.b.items }) }) (moments_of c.args.disk.now.log) state)
    (sym (ap (λ (moments : Moments). moments.now) c.in-Ok-crash.ensures.settled))
    (stop_leaves _ _ refl (c.requires.follows t d p) _ c.in-Ok-crash.ensures.moment _ c.in-Ok-crash.ensures.image)
