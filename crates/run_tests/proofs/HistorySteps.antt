-- What holds at each step of a history: by induction on the steps, over one lemma on a run.
use Rattle.std.proofs.Common.{◌≡◌, ◌⊎◌, false, List, [], ◌∷◌, ◌++◌, Option, Some, sym, subst, arith}
use Rattle.std.specs.Prelude.{◌↔◌, All}
use Rattle.std.specs.List.{AllByRecursion}
use Rattle.std.proofs.lemmas.List.Elements.{All-nil}
use Rattle.base.specs.declared.file.FileName.{FileName}
use Rattle.outside.specs.Records.{Record, latest}
use Rattle.outside.specs.Disks.{DiskState, IsSoundSide, reads_of, settled, settled_disk}
use Rattle.outside.specs.Commits.{last_state}
use Rattle.outside.proofs.ImageLaws.{settled_sound, settled_disk_only}
use Rattle.outside.proofs.MomentLaws.{all_last}
use Rattle.run_spec.specs.Faithful.{IsTrueRecord, IsFaithful, IsFaithfulDisk}
use Rattle.run_spec.specs.Histories.{Sources, Order, World, ProgramRun, RunStep, IsMoment, IsReadable, empty_image}
use Rattle.run_laws.specs.Spares.{IsAcknowledged, HasFileAsked}
use Rattle.run_laws.proofs.Moments.{at_moment, on_left}
use Rattle.run_laws.proofs.RightRuns.{run_faithful, run_readable}
use Rattle.run_laws.proofs.SparedRuns.{run_spares, run_leaves}
use Rattle.run_laws.proofs.StoppedRuns.{lasts}
use Rattle.run_tests.specs.Histories.{Stop, HistoryStep, Edited, Ran, Stopped, IsHistory, sources_after, disk_after}
use Rattle.run_tests.specs.Rights.{AllRight, IsRight}
use Rattle.run_tests.specs.Spares.{AllSpare}
use Rattle.run_tests.proofs.TestedRights.{stop_right, tested_right}

module _ (world : World) where
  abbrev Faithful : DiskState → Type 0
  Faithful disk = IsFaithfulDisk world.compiler world.records_of disk

  abbrev order_of : ProgramRun → Sources → Option Order
  order_of run sources = world.reading run.words sources

  -- each run of a history is right with its tests
  pub all_right : (steps : List HistoryStep) (sources : Sources) (disk : DiskState) → IsReadable disk → Faithful disk → IsHistory world sources disk steps → AllRight world sources disk steps
  unfolding IsHistory AllRight
  all_right [] sources disk readable faithful history = faithful
  all_right (Edited new ∷ steps) sources disk readable faithful history = all_right steps new disk readable faithful history
  all_right (Ran run ∷ steps) sources disk readable faithful history = (
    tested_right world sources run disk readable faithful history.0,
    all_right steps sources (last_state disk run.later) (all_last IsReadable disk run.later (run_readable world (order_of run sources) run disk readable history.0.0))
        (all_last Faithful disk run.later (run_faithful world (order_of run sources) run disk readable faithful history.0.0)) history.1,
  )
  all_right (Stopped run stop ∷ steps) sources disk readable faithful history =
      let right : IsRight world sources run disk = tested_right world sources run disk readable faithful history.0 in (
        right,
        stop_right world.compiler (order_of run sources) (world.plan run.words sources) run.tests stop.tests history.1.more history.1.tested right.1,
        all_right steps sources stop.disk history.1.left.readable
            (on_left (IsFaithful world.compiler world.records_of) stop.moment stop.disk history.1.left
            (at_moment Faithful stop.moment disk run.later history.1.moment (run_faithful world (order_of run sources) run disk readable faithful history.0.0))) history.2,
      )

  -- also from an empty disk, of which nothing was recorded
  pub all_right_from_empty : (steps : List HistoryStep) (sources : Sources) → world.records_of empty_image ≡ [] → IsHistory world sources (settled_disk empty_image) steps → AllRight world sources (settled_disk empty_image) steps
  all_right_from_empty steps sources none history =
      let side : IsSoundSide (settled []) = settled_sound [] (omega arith) in
      all_right steps sources (settled_disk empty_image) (record { a = side.image; b = side.image })
      (λ image is. subst (IsFaithful world.compiler world.records_of) (sym (settled_disk_only empty_image image is))
      (subst (All (IsTrueRecord world.compiler)) (sym none) (All-nil (IsTrueRecord world.compiler)))) history

  -- steps after steps are a history where both are
  pub joined : (more steps : List HistoryStep) (sources : Sources) (disk : DiskState) →
      IsHistory world sources disk (steps ++ more) ↔ (IsHistory world sources disk steps × IsHistory world (sources_after sources steps) (disk_after disk steps) more)
  unfolding IsHistory sources_after disk_after
  joined more [] sources disk = (λ history. (tt, history), λ both. both.1)
  joined more (Edited new ∷ steps) sources disk = joined more steps new disk
  joined more (Ran run ∷ steps) sources disk =
      let rest = joined more steps sources (last_state disk run.later) in
      (λ history. let both = rest.0 history.1 in ((history.0, both.0), both.1), λ both. (both.0.0, rest.1 (both.0.1, both.1)))
  joined more (Stopped run stop ∷ steps) sources disk =
      let rest = joined more steps sources stop.disk in
      (λ history. let both = rest.0 history.2 in ((history.0, history.1, both.0), both.1), λ both. (both.0.0, both.0.1, rest.1 (both.0.2, both.1)))

  module _ (name : FileName) (kept : Record) where
    -- no run starts a file at the view of its acknowledged record
    pub all_spare : (steps : List HistoryStep) (sources : Sources) (disk : DiskState) → IsReadable disk → IsAcknowledged world name kept disk → IsHistory world sources disk steps → AllSpare world name kept sources disk steps
    unfolding IsHistory AllSpare
    all_spare [] sources disk readable here history = here
    all_spare (Edited new ∷ steps) sources disk readable here history = all_spare steps new disk readable here history
    all_spare (Ran run ∷ steps) sources disk readable here history = (
      run_spares world name kept (order_of run sources) run disk readable here history.0.0,
      λ leaves.
          all_spare steps sources (last_state disk run.later) (all_last IsReadable disk run.later (run_readable world (order_of run sources) run disk readable history.0.0))
          (all_last (IsAcknowledged world name kept) disk run.later (run_leaves world name kept (order_of run sources) run disk readable here history.0.0 leaves)) history.1,
    )
    all_spare (Stopped run stop ∷ steps) sources disk readable here history = (
      run_spares world name kept (order_of run sources) run disk readable here history.0.0,
      λ leaves.
          all_spare steps sources stop.disk history.1.left.readable
          (on_left (λ image. latest name (world.records_of image) ≡ Some kept) stop.moment stop.disk history.1.left
          (at_moment (IsAcknowledged world name kept) stop.moment disk run.later history.1.moment (run_leaves world name kept (order_of run sources) run disk readable here history.0.0 leaves))) history.2,
    )

-- a record that is acknowledged at the moment of a stop is so on the disk that the stop leaves, and counts in all that follows
pub stopped_spares : (world : World) (sources : Sources) (disk : DiskState) (run : ProgramRun) (stop : Stop) (steps : List HistoryStep) (name : FileName) (kept : Record) →
    IsHistory world sources disk (Stopped run stop ∷ steps) → IsAcknowledged world name kept stop.moment → AllSpare world name kept sources stop.disk steps
unfolding IsHistory
stopped_spares world sources disk run stop steps name kept history there =
    all_spare world name kept steps sources stop.disk history.1.left.readable
    (on_left (λ image. latest name (world.records_of image) ≡ Some kept) stop.moment stop.disk history.1.left there) history.2

-- and so does one that was acknowledged before the stop
pub since_spares : (world : World) (sources : Sources) (disk : DiskState) (run : ProgramRun) (stop : Stop) (steps : List HistoryStep) (order : Order) (name : FileName) (kept : Record) → IsReadable disk →
    IsHistory world sources disk (Stopped run stop ∷ steps) → world.reading run.words sources ≡ Some order → HasFileAsked world order disk name kept.asked →
    (order.clean ≡ false) ⊎ (latest name (world.records_of (reads_of disk)) ≡ Some kept → ⊥) →
    (moment : DiskState) (is : IsMoment moment disk run.later) → IsAcknowledged world name kept moment → IsMoment stop.moment moment is.after → AllSpare world name kept sources stop.disk steps
unfolding IsHistory
since_spares world sources disk run stop steps order name kept readable history reading file counts moment is here later =
    let step : RunStep world (Some order) run disk = subst (λ (o : Option Order). RunStep world o run disk) reading history.0.0 in
    let since : AllByRecursion (IsAcknowledged world name kept) (moment ∷ is.after) = lasts world name kept order run disk readable file counts step moment is here in
    stopped_spares world sources disk run stop steps name kept history (at_moment (IsAcknowledged world name kept) stop.moment moment is.after later since)
