-- Answers to the goals of `build_statuses`.
use Rattle.std.proofs.Common.{ℕ, List, None, [], length, refl, sym, ap, subst, subst₂, ◌∙◌, arith}
use Rattle.std.specs.Prelude.{is_some, slice_get}
use Rattle.outside.specs.FaultCounts.{build_counts}
use Rattle.run_spec.specs.declared.statuses.FileStatus.{FileStatus}
use Rattle.run_spec.specs.declared.step.Step.{Step}
use Rattle.run_scheduler.specs.declared.step.BuildStep.TheVariants.{Run}
use Rattle.run_spec.specs.Faults.{CountsBy}
use Rattle.run_build.specs.UnderWay.{IsJournalled}
use Rattle.run_build.proofs.Gathering.{gathered_still}
use Rattle.run_build.proofs.UnderWayThen.{statuses_count, none_first_fault, started_at, nothing_first_fault, start_recorded, check_recorded}
use Rattle.run_build.proofs.WholeBuilds.{first_under_way, first_journal, holds_nothing, on_false, ran_nothing, ran_done, ran_fault, statuses_recorded, goes_by, goes_on}
use Rattle.run_spec.proofs.CountsAtFirst.{counts_at_first}
use Rattle.run_build.proofs.builds.build_statuses.Goals as goal

pub returns-in_default-clause-ran : goal.returns-in_default-clause-ran
returns-in_default-clause-ran g c = ran_nothing _ _ _ _ _ _ _ _ c.requires.usable (λ tells. g.met.K.Records.durable c.args.store.now _ (c.requires.in_step tells))

pub loop-at-init : goal.loop-at-init
loop-at-init g c = record {
  going = record {
    events = [];
    acknowledged = 0;
    under_way = first_under_way c.args.graph.now _ _ _ _ c.in-Ok.ensures.graph c.in-Ok.ensures.in_step c.in-Ok.ensures.stopped c.in-Ok.ensures.has_status c.requires.usable;
    journal = λ tells. subst (IsJournalled _ _ [] (g.P.Procs.journal c.args.procs.now)) (sym c.announce_starts.ensures.journal) (first_journal _ _ _);
    images = λ tells. holds_nothing _ _ _ _ c.requires.usable (g.met.K.Records.durable c.args.store.now _ (c.requires.in_step tells));
  };
  running = c.announce_starts.ensures.running ∙ c.requires.idle ∙ sym c.in-Ok.ensures.tickets;
  same = c.announce_starts.ensures.same;
  files = c.in-Ok.ensures.files;
  in_step = λ tells. on_false (g.K.Records.broken c.args.store.now) (c.requires.in_step tells);
  over = c.requires.over;
  gathered = c.new-gathered.ensures (g.K.Records.latest_of c.args.store.now) c.args.graph.now;
  counts = subst₂ (λ (starts losses : ℕ). CountsBy None (g.K.Records.broken c.args.store.now)
      (build_counts g.P.Procs g.D.Disk c.args.procs.now c.args.disk.now)
      (record { children = record { starts = starts; losses = losses }; disks = g.D.Disk.failed_disk_calls c.args.disk.now }))
      (sym c.announce_starts.ensures.starts) (sym c.announce_starts.ensures.children) (counts_at_first (g.K.Records.broken c.args.store.now) _ c.requires.usable);
}

pub start_one-requires-clause-recorded : goal.start_one-requires-clause-recorded
start_one-requires-clause-recorded g c =
    let under = c.loop-at.invariant.going.under_way in
    start_recorded _ _ _ _ _ under c.in-Run-Start.at (started_at _ _ c.in-Run-Start.at (sym c.in-Run-Start.field-0-is ∙ c.in-Run-Start.ensures.in_step _ _ under.in_step c.in-Run-Start.field-0 refl))

pub start_one-requires-clause-unnoted : goal.start_one-requires-clause-unnoted
start_one-requires-clause-unnoted g c =
    let under = c.loop-at.invariant.going.under_way in
    nothing_first_fault _ _ _ _ _ under c.in-Run-Start.at (started_at _ _ c.in-Run-Start.at (sym c.in-Run-Start.field-0-is ∙ c.in-Run-Start.ensures.in_step _ _ under.in_step c.in-Run-Start.field-0 refl))

pub loop-at-preserved-in-Run-Start : goal.loop-at-preserved-in-Run-Start
loop-at-preserved-in-Run-Start g c =
    let before = c.loop-at.invariant in
    record {
      going = goes_on _ _ _ _ _ _ _ _ _ _ _ _ before.same before.going
          (λ journal. c.start_one.ensures.goes _ before.going.events before.going.acknowledged _ _ before.going.under_way journal);
      running = c.start_one.ensures.running;
      same = c.start_one.ensures.same ∙ before.same;
      files = c.start_one.ensures.files ∙ before.files;
      in_step = before.in_step;
      over = before.over;
      gathered = c.start_one.ensures.gathered;
      counts = c.start_one.ensures.counts _ _ _ before.counts;
    }

pub loop-at-preserved : goal.loop-at-preserved
loop-at-preserved g c =
    let before = c.loop-at.invariant in
    record {
      going = goes_by _ _ _ _ _ _ _ _ _ _ _ before.same before.going (c.end_one.ensures.goes _);
      running = c.end_one.ensures.running;
      same = c.end_one.ensures.same ∙ before.same;
      files = c.end_one.ensures.files ∙ before.files;
      in_step = c.end_one.ensures.in_step;
      over = c.end_one.ensures.over;
      gathered = gathered_still c.args.graph.now before.going.under_way.is_graph _ _ c.loop-at.gathered
          (c.end_one.ensures.keeps c.loop-at.gathered.count before.gathered.recorded) before.gathered;
      counts = c.end_one.ensures.counts _ before.counts;
    }

pub returns-in-None-clause-count : goal.returns-in-None-clause-count
returns-in-None-clause-count g c = ap length c.from_vec.ensures ∙ statuses_count _ _ _ _ _ c.loop-at.invariant.going.under_way

pub returns-in-None-clause-ran : goal.returns-in-None-clause-ran
returns-in-None-clause-ran g c =
    let before = c.loop-at.invariant in
    ran_done _ _ _ _ _ _ _ _ before.going c.in-None.is (c.in-Run-Finished.ensures.finished (ap (λ (step : Step). Run step) c.in-Run-Finished.field-0-is) _ _ before.going.under_way.in_step)
    (λ at lt new. c.in-Run-Finished.ensures.unchecked _ _ before.going.under_way.in_step (before.going.under_way.halts ∙ ap is_some c.in-None.is) c.in-Run-Finished.field-0 refl at (omega (arith, lt, before.files)) new) c.from_vec.result c.from_vec.ensures

pub returns-in-None-clause-recorded : goal.returns-in-None-clause-recorded
returns-in-None-clause-recorded g c = λ position status at made.
    statuses_recorded c.args.graph.now _ _ _ _ c.loop-at.invariant.going.under_way c.in-None.is position status (ap (λ (l : List FileStatus). slice_get l position) (sym c.from_vec.ensures) ∙ at) made

pub returns-clause-ran : goal.returns-clause-ran
returns-clause-ran g c = ran_fault _ _ _ _ _ _ _ _ c.loop-at.invariant.going c.in-Some.fault c.in-Some.is _

pub check_one-fresh-requires-clause-position : goal.check_one-fresh-requires-clause-position
check_one-fresh-requires-clause-position g c =
    let before = c.loop-at.invariant in
    omega (arith, c.in-Check.ensures.checks c.in-Check.at refl, before.files, statuses_count _ _ _ _ _ before.going.under_way)

pub check_one-fresh-requires-clause-count : goal.check_one-fresh-requires-clause-count
check_one-fresh-requires-clause-count g c = statuses_count _ _ _ _ _ c.loop-at.invariant.going.under_way

pub check_one-fresh-requires-clause-recorded : goal.check_one-fresh-requires-clause-recorded
check_one-fresh-requires-clause-recorded g c =
    let before = c.loop-at.invariant in
    let under = before.going.under_way in
    let free = c.in-Check.ensures.free _ _ under.in_step c.in-Check.at refl in
    check_recorded _ _ _ _ _ under (none_first_fault _ (sym under.halts ∙ c.in-Check.ensures.goes_on c.in-Check.at refl)) c.in-Check.at
    (omega (arith, c.in-Check.ensures.checks c.in-Check.at refl, before.files)) (free.1)

pub loop-at-preserved-else-fresh : goal.loop-at-preserved-else-fresh
loop-at-preserved-else-fresh g c =
    let before = c.loop-at.invariant in
    record {
      going = record {
        events = before.going.events;
        acknowledged = before.going.acknowledged;
        under_way = c.check_one-fresh.ensures.goes _ before.going.events before.going.acknowledged _ _ before.going.under_way;
        journal = before.going.journal;
        images = before.going.images;
      };
      running = before.running ∙ sym c.check_one-fresh.ensures.tickets;
      same = before.same;
      files = c.check_one-fresh.ensures.files ∙ before.files;
      in_step = before.in_step;
      over = before.over;
      gathered = before.gathered;
      counts = before.counts;
    }

pub loop-at-preserved-then-fresh : goal.loop-at-preserved-then-fresh
loop-at-preserved-then-fresh g c =
    let before = c.loop-at.invariant in
    record {
      going = record {
        events = before.going.events;
        acknowledged = before.going.acknowledged;
        under_way = c.check_one-fresh.ensures.goes _ before.going.events before.going.acknowledged _ _ before.going.under_way;
        journal = λ tells. subst (IsJournalled _ _ before.going.events _) (sym c.skip_start.ensures.journal) (before.going.journal tells);
        images = before.going.images;
      };
      running = c.skip_start.ensures.running ∙ before.running ∙ sym c.check_one-fresh.ensures.tickets;
      same = c.skip_start.ensures.same ∙ before.same;
      files = c.check_one-fresh.ensures.files ∙ before.files;
      in_step = before.in_step;
      over = before.over;
      gathered = before.gathered;
      counts = subst₂ (λ (starts losses : ℕ). CountsBy c.loop-at.first_fault (g.K.Records.broken c.loop-at.store)
          (build_counts g.P.Procs g.D.Disk c.args.procs.now c.args.disk.now)
          (record { children = record { starts = starts; losses = losses }; disks = g.D.Disk.failed_disk_calls c.loop-at.disk }))
          (sym c.skip_start.ensures.starts) (sym c.skip_start.ensures.children) before.counts;
    }
