-- Answers to the goals of `begin`.
use Rattle.std.proofs.Common.{List, not, map, sym, ap, subst, ◌≡◌, ◌<◌, length, ℕ, ◌∙◌}
use Rattle.run_scheduler.specs.declared.plans.Need.{Need}
use Rattle.run_scheduler.specs.Plans.{is_later, need_at}
use Rattle.run_spec.specs.ChildJournal.{workload_of}
use Rattle.run_spec.specs.Commits.{work_of}
use Rattle.run_scheduler.specs.Machines.{IsWorkloadOf, is_checked}
use Rattle.run_build.specs.Statuses.{first_status}
use Rattle.run_build.proofs.BeginThen.{is_workload, first_statuses_are}
use Rattle.run_build.proofs.builds.begin.Goals as goal

pub returns-clause-in_step : goal.returns-clause-in_step
returns-clause-in_step g c =
    c.in_ok-scheduler.ensures.in_step _
    (subst (λ (needs : List Need). IsWorkloadOf (workload_of (work_of (g.K.Records.latest_of c.args.store.now) c.args.graph.now c.args.limit c.args.keep_going)) c.args.graph.now needs c.args.limit c.args.keep_going) (sym c.as_slice.ensures)
    (is_workload _ c.args.graph.now c.len.ensures.graph _ c.in_ok-plan.ensures c.args.limit c.args.keep_going))

pub returns-clause-has_status : goal.returns-clause-has_status
returns-clause-has_status g c =
    c.in_ok-statuses.ensures ∙ ap (map (first_status c.args.keep_going)) c.as_slice-2.ensures
    ∙ first_statuses_are _ c.args.graph.now c.len.ensures.graph _ c.in_ok-plan.ensures c.args.limit c.args.keep_going _
    (subst (λ (needs : List Need). (at : ℕ) → at < length c.args.graph.now → is_checked c.in_ok-scheduler.scheduler at ≡ not (is_later (need_at needs at))) c.as_slice.ensures c.in_ok-scheduler.ensures.checked)
