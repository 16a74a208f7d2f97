-- How a run of steps goes on, each from the disk that the one before it left.
use Rattle.std.proofs.Common.{◌≡◌, List, subst}
use Rattle.outside.specs.Disks.{DiskState, Moments, Goes}
use Rattle.store_journal.specs.Steps.{Step, Went, then_steps}
use Rattle.store_journal.proofs.Went.{went_on}

-- if the first step is done and the others run from the disk that it left, all steps have run
pub went_then : (step : Step) (rest : DiskState → List Step) (old middle new : Moments) → Goes step.during old middle → middle.now ≡ step.after → Went (rest middle.now) middle new → Went (then_steps step rest) old new
went_then step rest old middle new goes is went = went_on step (rest step.after) old middle new goes is (subst (λ (s : DiskState). Went (rest s) middle new) is went)
