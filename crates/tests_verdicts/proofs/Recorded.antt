-- Where the need of each file is met, each has a record of what would be asked for it now.
use Rattle.std.proofs.Common.{◌≡◌, ℕ, ◌<◌, List, length, Option, All, sym, ap, subst}
use Rattle.base.specs.declared.file.FileName.{FileName}
use Rattle.base.specs.declared.graph.Entry.{Entry}
use Rattle.outside.specs.Records.{Record}
use Rattle.outside.specs.Records.{IsRecorded}
use Rattle.run_scheduler.specs.declared.plans.Need.{Need}
use Rattle.run_scheduler.specs.declared.plans.Need.TheVariants.{Fresh, Later}
use Rattle.run_scheduler.specs.Plans.{ArePlanned, is_fresh, is_later}

pub all_recorded : (latest_of : FileName → Option Record) (graph : List Entry) (needs : List Need) → ArePlanned graph (IsRecorded latest_of graph) needs → All (λ need. need ≡ Fresh) needs → (position : ℕ) → position < length graph → IsRecorded latest_of graph position
all_recorded latest_of graph needs are fresh position below =
    let within : position < length needs = subst (λ (count : ℕ). position < count) (sym are.as_many) below in
    let is = fresh position Later within in
    (are.fresh position below (ap is_later is)).0 (ap is_fresh is)
