-- A run from a disk of true records is right.
use Rattle.std.proofs.Common.{◌≡◌, ◌⊎◌, Bool, true, false, cond, List, [], ◌∷◌, ◌++◌, Option, Some, None, refl, sym, subst, inl, inr, arith}
use Rattle.std.specs.Prelude.{All}
use Rattle.std.specs.List.{AllByRecursion}
use Rattle.std.proofs.lemmas.List.Elements.{All-nil, All-cons, All-head, All-tail, All-append}
use Rattle.std.proofs.lemmas.Option.{none-some}
use Rattle.base.specs.declared.file.FileName.{FileName}
use Rattle.base.specs.declared.child.Event.{Event}
use Rattle.base.specs.declared.child.Event.TheVariants.{Started}
use Rattle.base.specs.Graphs.{IsGraph}
use Rattle.outside.specs.Records.{Record}
use Rattle.outside.specs.Disks.{DiskState, Image, IsImage, reads_of, IsSoundSide, settled, settled_disk}
use Rattle.outside.specs.Records.{latest, IsAllOrLatest}
use Rattle.outside.specs.Commits.{last_state}
use Rattle.outside.specs.Phases.{HasBaseAndPrefix}
use Rattle.outside.proofs.ImageLaws.{settled_sound, settled_disk_only}
use Rattle.outside.proofs.MomentLaws.{all_last, all_weaker}
use Rattle.outside.proofs.PhaseLaws.{phases_give}
use Rattle.run_spec.specs.ChildJournal.{Work, Lawful, Answered}
use Rattle.run_spec.specs.CleanBuild.{RecordsClean}
use Rattle.run_spec.specs.Commits.{commits}
use Rattle.run_spec.specs.Faithful.{IsTrueRecord, IsFaithful, IsFaithfulDisk}
use Rattle.run_spec.specs.Histories.{Order, World, ProgramRun, IsReadable, IsBuildRun, IsIdleRun, RunStep, work_over, latest_over}
use Rattle.run_spec.proofs.Prefixes.{lawful_prefix, lawful_none}
use Rattle.run_laws.proofs.CleanCommits.{commits_true}
use Rattle.run_laws.proofs.CleanSettled.{request_clean}
use Rattle.run_laws.proofs.JournalSettled.{asked}
use Rattle.run_laws.proofs.TrueRecords.{records_clean, All-latest, All-latest_alone}
use Rattle.run_laws.specs.Rights.{IsRightRun, IsRightStep}
use Rattle.run_laws.proofs.Moments.{at_moment, on_left}

-- no event is before the first
nothing_before : (before rest : List Event) → [] ≡ before ++ rest → before ≡ []
nothing_before [] rest e = refl
nothing_before (event ∷ before) rest e = let nothing : ⊥ = cc in absurd nothing

nothing_after : (before rest : List Event) (event : Event) → [] ≡ before ++ event ∷ rest → ⊥
nothing_after [] rest event e = cc
nothing_after (first ∷ before) rest event e = cc

All-prefix : (P : Record → Type 0) (prefix left : List Record) → All P (prefix ++ left) → All P prefix
All-prefix P [] left all = All-nil P
All-prefix P (kept ∷ prefix) left all = All-cons P kept prefix (All-head P kept (prefix ++ left) all) (All-prefix P prefix left (All-tail P kept (prefix ++ left) all))

module _ (world : World) where
  abbrev True : Record → Type 0
  True kept = IsTrueRecord world.compiler kept

  abbrev Faithful : DiskState → Type 0
  Faithful disk = IsFaithfulDisk world.compiler world.records_of disk

  still_true : (before now : List Record) → IsAllOrLatest before now → All True before → All True now
  still_true before now (inl same) each = subst (All True) (sym same) each
  still_true before now (inr alone) each = subst (All True) (sym alone) (All-latest_alone True before each)

  base_true : (clean : Bool) (first : DiskState) (base : List Record) → Faithful first → ((before : Image) × IsImage first before × IsAllOrLatest (world.records_of before) base) ⊎ ((clean ≡ true) × (base ≡ [])) → All True base
  base_true clean first base faithful (inl from) = still_true (world.records_of from.0) base from.2 (faithful from.0 from.1)
  base_true clean first base faithful (inr none) = subst (All True) (sym none.1) (All-nil True)

  -- an image with records from before and a prefix of what was committed has true records alone
  image_true : (clean : Bool) (more : List Record) (first : DiskState) → Faithful first → All True more → (image : Image) → HasBaseAndPrefix world.records_of clean more first image → IsFaithful world.compiler world.records_of image
  image_true clean more first faithful all image has =
      subst (All True) (sym has.are) (All-append True has.base has.prefix (base_true clean first has.base faithful has.from) (All-prefix True has.prefix has.left (subst (All True) has.all all)))

  latest_true : (records : List Record) → All True records → (clean : Bool) (name : FileName) (kept : Record) → cond clean None (latest name records) ≡ Some kept → True kept
  latest_true records all true name kept is = absurd (none-some kept is)
  latest_true records all false name kept is = All-latest True name records kept all is

  -- what a run goes by is what a clean build makes
  pub run_clean : (order : Order) (first : DiskState) → IsGraph order.graph → IsReadable first → Faithful first → RecordsClean world.compiler order.graph (work_over world.records_of order first).current
  run_clean order first graph readable faithful =
      records_clean world.compiler (latest_over world.records_of order.clean first) order.graph graph (latest_true (world.records_of (reads_of first)) (faithful (reads_of first) readable) order.clean)

  pub build_right : (order : Order) (run : ProgramRun) (first : DiskState) → IsReadable first → Faithful first → IsBuildRun world order run first → IsRightRun world order run first
  build_right order run first readable faithful build =
      let setting : Work = work_over world.records_of order first in
      let clean : RecordsClean world.compiler order.graph setting.current = run_clean order first build.graph readable faithful in
      let all : All True (commits setting run.events) = commits_true world.compiler setting build.graph run.events build.lawful build.answered in
      record {
        faithful = all_weaker (HasBaseAndPrefix world.records_of order.clean (commits setting run.events) first) (IsFaithful world.compiler world.records_of) (first ∷ run.later)
            (image_true order.clean (commits setting run.events) first faithful all)
            (phases_give world.records_of order.clean (commits setting run.events) first readable build.acknowledged run.later build.phases);
        lawful = λ before rest e. lawful_prefix setting before rest (subst (Lawful setting) e build.lawful);
        asked = λ before rest ticket request e.
            let is = asked world.compiler setting build.graph before rest ticket request (subst (Lawful setting) e build.lawful) (subst (Answered world.compiler) e build.answered) in
            (is.0, is.1, request_clean world.compiler order.graph build.graph setting.current clean is.0 request is.2);
      }

  idle_right : (order : Order) (run : ProgramRun) (first : DiskState) → Faithful first → IsIdleRun run → IsRightRun world order run first
  idle_right order run first faithful idle = record {
    faithful = (faithful, subst (AllByRecursion Faithful) (sym idle.later) tt);
    lawful = λ before rest e. subst (Lawful (work_over world.records_of order first)) (sym (nothing_before before rest (subst (λ (l : List Event). l ≡ before ++ rest) idle.events e))) (lawful_none (work_over world.records_of order first));
    asked = λ before rest ticket request e. absurd (nothing_after before rest (Started ticket request) (subst (λ (l : List Event). l ≡ before ++ Started ticket request ∷ rest) idle.events e));
  }

  pub idle_moments : (Q : DiskState → Type 0) (run : ProgramRun) (first : DiskState) → IsIdleRun run → Q first → AllByRecursion Q (first ∷ run.later)
  idle_moments Q run first idle here = (here, subst (AllByRecursion Q) (sym idle.later) tt)

  -- a run is right, each of its moments is faithful, and reads of each give an image
  pub run_right : (order : Option Order) (run : ProgramRun) (first : DiskState) → IsReadable first → Faithful first → RunStep world order run first → IsRightStep world order run first
  run_right None run first readable faithful idle = (idle, faithful)
  run_right (Some order) run first readable faithful (inl idle) = idle_right order run first faithful idle
  run_right (Some order) run first readable faithful (inr build) = build_right order run first readable faithful build

  pub run_faithful : (order : Option Order) (run : ProgramRun) (first : DiskState) → IsReadable first → Faithful first → RunStep world order run first → AllByRecursion Faithful (first ∷ run.later)
  run_faithful None run first readable faithful idle = idle_moments Faithful run first idle faithful
  run_faithful (Some order) run first readable faithful step = (run_right (Some order) run first readable faithful step).faithful

  pub run_readable : (order : Option Order) (run : ProgramRun) (first : DiskState) → IsReadable first → RunStep world order run first → AllByRecursion IsReadable (first ∷ run.later)
  run_readable None run first readable idle = idle_moments IsReadable run first idle readable
  run_readable (Some order) run first readable (inl idle) = idle_moments IsReadable run first idle readable
  run_readable (Some order) run first readable (inr build) = (readable, build.readable)
