-- What remains to be proved of `plan`.
use Rattle.std.proofs.Common.{ℕ, List, not, sym, subst, ◌≡◌, ◌+◌}
use Rattle.std.specs.List.{list_all}
use Rattle.outside.specs.Records.{IsRecorded, deps_at}
use Rattle.run_scheduler.specs.declared.plans.Need.{Need}
use Rattle.run_scheduler.specs.Plans.{is_fresh, is_later, need_at, ArePlannedTo}
use Rattle.run_scheduler.proofs.Planned.{planned_more}
use Rattle.run_scheduler.proofs.plans.plan.Goals as goal

pub loop-at-preserved : goal.loop-at-preserved
loop-at-preserved g c =
    let graph = c.args.graph.now in
    let Fits : ℕ → Type 0 = IsRecorded (g.K.Records.latest_of c.args.store.now) graph in
    let later = subst (λ (needs : List Need). is_later c.need_of-need.result ≡ not (list_all (λ dep. is_fresh (need_at needs dep)) (deps_at graph c.loop-at.at))) c.as_slice.ensures.value c.need_of-need.ensures.later in
    subst (λ (needs : List Need). ArePlannedTo graph Fits needs (c.loop-at.at + 1)) (sym c.in_ok-push.ensures.items)
    (planned_more graph c.len.ensures.graph Fits c.loop-at.needs.items c.loop-at.at c.need_of-need.result c.loop-at.invariant later c.need_of-need.ensures.fresh)
