-- Each need is met.
use Rattle.std.proofs.Common.{◌≡◌, All, subst, List}
use Rattle.run_scheduler.specs.declared.plans.Need.{Need}
use Rattle.run_scheduler.specs.declared.plans.Need.TheVariants.{Fresh}
use Rattle.tests_verdicts.proofs.Recorded.{all_recorded}
use Rattle.tests_verdicts.proofs.asked.are_recorded.Goals as goal

pub returns : goal.returns
returns g c = λ are.
    let fresh = subst (λ (needs : List Need). All (λ need. need ≡ Fresh) needs) c.as_slice.ensures (c.all_fresh.ensures are) in
    all_recorded (g.K.Records.latest_of c.args.store.now) c.args.graph.now c.in_ok-needs.needs c.in_ok-needs.ensures fresh
