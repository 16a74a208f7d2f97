-- What the loop of `plan` keeps: the files so far are planned.
use Rattle.outside.specs.Records.{IsRecorded}
use Rattle.run_scheduler.specs.Plans.{ArePlannedTo}
use Rattle.run_scheduler.proofs.plans.plan.Given as goal

abbrev pub invariant-loop-at : goal.invariant-loop-at
invariant-loop-at g l = ArePlannedTo l.graph (IsRecorded (g.K.Records.latest_of l.store) l.graph) l.needs.items l.at
