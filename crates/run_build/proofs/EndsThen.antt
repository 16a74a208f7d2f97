-- The end of a child that is taken: refused, compiled and not committed, or compiled and to be committed.
use Rattle.std.proofs.Common.{◌≡◌, ℕ, ◌+◌, ◌<◌, Bool, true, false, not, eqb, List, [], ◌∷◌, ◌++◌, length, map, take, Option, Some, None, Err, refl, sym, ap, subst, ◌∙◌, arith}
use Rattle.std.specs.Prelude.{is_some}
use Rattle.std.specs.List.{list_all}
use Rattle.std.proofs.Math.ListN.{set}
use Rattle.std.proofs.lemmas.Bool.{and_parts, not-true, cond-true, cond-false}
use Rattle.std.proofs.lemmas.List.{append-nil}
use Rattle.base.specs.declared.file.FileName.{FileName}
use Rattle.base.specs.declared.graph.BuiltFile.{BuiltFile}
use Rattle.base.specs.declared.graph.Entry.{Entry}
use Rattle.base.specs.declared.child.Exit.{Exit}
use Rattle.base.specs.declared.child.Event.{Event}
use Rattle.base.specs.declared.child.Event.TheVariants.{Ended}
use Rattle.run_spec.specs.declared.statuses.FileStatus.{FileStatus}
use Rattle.run_spec.specs.declared.statuses.FileStatus.TheVariants.{Compiled, Refused}
use Rattle.outside.specs.Records.{Record, deps_at, latest_built}
use Rattle.outside.specs.Disks.{Image, Moments}
use Rattle.outside.proofs.CommitLaws.{one_if}
use Rattle.run_spec.specs.Moves.{Workload, SchedulerState, Ends, is_made_so_far, start_now, is_running, position_of, after_move}
use Rattle.run_spec.specs.ChildJournal.{Work, End, workload_of, schedule_of, progress_of}
use Rattle.run_spec.specs.Commits.{record_at, commit_of, commits}
use Rattle.run_scheduler.specs.declared.build_scheduler.BuildScheduler.{BuildScheduler}
use Rattle.run_scheduler.specs.Machines.{IsMachineOf, is_checked, is_stopped_in}
use Rattle.run_spec.specs.declared.fault.RunFault.{RunFault}
use Rattle.run_spec.specs.declared.fault.RunFault.TheVariants.{NoMemory, StartFailed, ChildLost, DiskFailed}
use Rattle.run_build.specs.Commits.{latest_after, HoldsFirst}
use Rattle.run_spec.specs.Faults.{with_fault, is_no_memory}
use Rattle.run_build.specs.Faults.{is_all_committed, CountsCommit, is_disk_failed, ComesFirst}
use Rattle.run_build.specs.UnderWay.{Origin, BuildState, work_from, IsUnderWay, TakesEnd}
use Rattle.run_spec.specs.Steps.{halted_if}
use Rattle.run_build.proofs.StatusesThen.{status_of_exit}
use Rattle.run_build.proofs.RecordsThen.{record_of_good, no_record}
use Rattle.run_build.proofs.Acknowledging.{all_few, acknowledges_left, acknowledges_one, holds_left, holds_one}
use Rattle.run_build.proofs.FirstFaults.{first_kept, first_acknowledged, first_uncommitted}
use Rattle.run_build.proofs.UnderWayThen.{end, built_now, commits_ended, machine_ended, ended_under_way}

-- what failed to be committed isn't among what is
pub failed_commit : (first_fault : Option RunFault) (fault : RunFault) (before now : ℕ) → CountsCommit {T = Unit {0}} (Err fault) before now → (broken : Bool) → broken ≡ is_disk_failed {T = Unit {0}} (Err fault) →
    is_all_committed (Some (with_fault first_fault fault)) broken ≡ true → false ≡ true
failed_commit first_fault NoMemory before now cause broken is h = h
failed_commit first_fault StartFailed before now cause broken is h = absurd cause
failed_commit first_fault ChildLost before now cause broken is h = absurd cause
failed_commit None DiskFailed before now cause broken is h = ap not (sym is) ∙ h
failed_commit (Some NoMemory) DiskFailed before now cause broken is h = h
failed_commit (Some StartFailed) DiskFailed before now cause broken is h = ap not (sym is) ∙ h
failed_commit (Some ChildLost) DiskFailed before now cause broken is h = ap not (sym is) ∙ h
failed_commit (Some DiskFailed) DiskFailed before now cause broken is h = ap not (sym is) ∙ h

no_both : {A : Type 0} → false ≡ true → A
no_both h = let nothing : ⊥ = cc in absurd nothing

-- the store is usable where all is committed
pub usable_where_all : (first_fault : Option RunFault) (broken : Bool) → is_all_committed first_fault broken ≡ true → broken ≡ false
usable_where_all first_fault broken on = not-true broken (and_parts (not (is_no_memory first_fault)) (not broken) on).1

module _ (told : Type 0) (records_of : Image → List Record) (graph : List Entry) (from : Origin) (events : List Event) (acknowledged : ℕ) (state : BuildState) (moments : Moments)
    (is : IsUnderWay graph from events acknowledged state) (holds : told → HoldsFirst acknowledged state.broken (commits (work_from graph from) events) records_of from.moments moments)
    (ticket at : ℕ) (exit : Exit) (inside : at < length graph) (machine' : BuildScheduler) where
  abbrev s : Work
  s = work_from graph from

  abbrev schedule : SchedulerState
  schedule = schedule_of (progress_of s events)

  abbrev all : Bool
  all = is_all_committed state.first_fault state.broken

  abbrev ended : Event
  ended = Ended ticket exit

  -- the state once the file is marked, and nothing else is done
  abbrev with_status : FileStatus → BuildState
  with_status status = record { machine = machine'; statuses = set state.statuses at status; first_fault = state.first_fault; latest_of = state.latest_of; broken = state.broken }

  module _ (there : position_of ticket schedule.running ≡ Some at) (runs : is_running schedule ticket ≡ true) (greedy : start_now (workload_of s) (halted_if (is_some state.first_fault) schedule) ≡ None)
      (step : IsMachineOf machine' (workload_of s) (after_move (workload_of s) (halted_if (is_some state.first_fault) schedule) (Ends ticket (eqb exit.code 0) exit.output)))
      (here : is_checked state.machine at ≡ true) (checked : (k : ℕ) → is_checked machine' k ≡ is_checked state.machine k) (stopped : is_stopped_in machine' ≡ is_stopped_in state.machine)
      (ready : (k : ℕ) → k < length graph → is_checked state.machine k ≡ true → list_all (is_made_so_far (workload_of s) schedule) (deps_at graph k) ≡ true) where
    in_step : IsMachineOf machine' (workload_of s) (halted_if (is_some state.first_fault) (schedule_of (progress_of s (events ++ ended ∷ []))))
    in_step = machine_ended graph from events acknowledged state is ticket at exit there inside machine' step

    abbrev one_end : End
    one_end = end graph from events acknowledged state is ticket at exit there inside

    commits_are : commits s (events ++ ended ∷ []) ≡ commits s events ++ commit_of graph one_end
    commits_are = commits_ended graph from events acknowledged state is ticket at exit there inside

    pub takes_refused : eqb exit.code 0 ≡ false → TakesEnd told records_of graph from (events ++ ended ∷ []) (with_status (Refused exit.code exit.output)) moments
    takes_refused code =
        let none : commits s (events ++ ended ∷ []) ≡ commits s events ++ [] = commits_are ∙ ap (λ (l : List Record). commits s events ++ l) (no_record graph one_end code) in
        record {
          acknowledged = acknowledged;
          under_way = ended_under_way graph from events acknowledged state is ticket at exit there inside runs greedy (Refused exit.code exit.output)
              (sym (cond-false (eqb exit.code 0) Compiled (Refused exit.code exit.output) code)) acknowledged machine' state.first_fault state.latest_of state.broken here checked ready (stopped ∙ is.halts) (λ n. (n, is.usable n)) in_step
              (acknowledges_left s events all from.latest_of state.latest_of acknowledged is.committed ended [] all tt none (λ on. (on, refl)))
              (first_kept s events acknowledged state.broken state.first_fault ended is.comes_first);
          images = λ t. subst (λ (l : List Record). HoldsFirst acknowledged state.broken l records_of from.moments moments) (sym (none ∙ append-nil (commits s events))) (holds t);
        }

    module _ (code : eqb exit.code 0 ≡ true) where
      abbrev one : Record
      one = record_at graph at one_end.below exit.output

      -- the record over the files that the store has now
      abbrev one_now : Record
      one_now = record_at graph at (map (latest_built state.latest_of graph) (deps_at graph at)) exit.output

      same_one : all ≡ true → one_now ≡ one
      same_one on = ap (λ (b : List BuiltFile). record_at graph at b exit.output) (sym (built_now graph from events acknowledged state is ticket at exit there inside on))

      commits_one_more : commits s (events ++ ended ∷ []) ≡ commits s events ++ one ∷ []
      commits_one_more = commits_are ∙ ap (λ (l : List Record). commits s events ++ l) (record_of_good graph one_end code)

      compiled_is : Compiled ≡ status_of_exit exit
      compiled_is = sym (cond-true (eqb exit.code 0) Compiled (Refused exit.code exit.output) code)

      pub takes_uncommitted : all ≡ false → TakesEnd told records_of graph from (events ++ ended ∷ []) (with_status Compiled) moments
      takes_uncommitted off = record {
        acknowledged = acknowledged;
        under_way = ended_under_way graph from events acknowledged state is ticket at exit there inside runs greedy Compiled compiled_is
            acknowledged machine' state.first_fault state.latest_of state.broken here checked ready (stopped ∙ is.halts) (λ n. (n, is.usable n)) in_step
            (acknowledges_left s events all from.latest_of state.latest_of acknowledged is.committed ended (one ∷ []) all tt commits_one_more (λ on. no_both (sym off ∙ on)))
            (first_kept s events acknowledged state.broken state.first_fault ended is.comes_first);
        images = λ t. subst (λ (l : List Record). HoldsFirst acknowledged state.broken l records_of from.moments moments) (sym commits_one_more)
            (holds_left acknowledged state.broken (commits s events) (one ∷ []) records_of from.moments moments is.committed.few (holds t));
      }

      pub takes_commit : all ≡ true → (ok : Bool) (machine'' : BuildScheduler) (first_fault' : Option RunFault) (later : FileName → Option Record) (broken' : Bool) (last : Moments) →
          (first_fault' ≡ None → (state.first_fault ≡ None) × (broken' ≡ false)) → (is_all_committed first_fault' broken' ≡ true → ok ≡ true) →
          ((k : ℕ) → is_checked machine'' k ≡ is_checked machine' k) → is_stopped_in machine'' ≡ is_some first_fault' →
          ((workload : Workload) (c : SchedulerState) → IsMachineOf machine' workload (halted_if (is_some state.first_fault) c) → IsMachineOf machine'' workload (halted_if (is_some first_fault') c)) →
          ((name : FileName) → later name ≡ latest_after (take (one_if ok) (one_now ∷ [])) state.latest_of name) → (told → HoldsFirst (one_if ok) broken' (one_now ∷ []) records_of moments last) →
          ComesFirst first_fault' s (events ++ ended ∷ []) (acknowledged + one_if ok) broken' → TakesEnd told records_of graph from (events ++ ended ∷ []) (record { machine = machine''; statuses = set state.statuses at Compiled; first_fault = first_fault'; latest_of = later; broken = broken' }) last
      takes_commit on ok machine'' first_fault' later broken' last none still same on_still halts latest images comes =
          let usable : state.broken ≡ false = usable_where_all state.first_fault state.broken on in
          let count : acknowledged ≡ length (commits s events) = all_few s events all from.latest_of state.latest_of acknowledged is.committed on in
          let latest_one : (name : FileName) → later name ≡ latest_after (take (one_if ok) (one ∷ [])) state.latest_of name =
          subst (λ (r : Record). (name : FileName) → later name ≡ latest_after (take (one_if ok) (r ∷ [])) state.latest_of name) (same_one on) latest in
          let images_one : told → HoldsFirst (one_if ok) broken' (one ∷ []) records_of moments last = subst (λ (r : Record). told → HoldsFirst (one_if ok) broken' (r ∷ []) records_of moments last) (same_one on) images in
          record {
            acknowledged = acknowledged + one_if ok;
            under_way = ended_under_way graph from events acknowledged state is ticket at exit there inside runs greedy Compiled compiled_is
                (acknowledged + one_if ok) machine'' first_fault' later broken' here (λ k. same k ∙ checked k) ready on_still none (halts (workload_of s) (schedule_of (progress_of s (events ++ ended ∷ []))) in_step)
                (acknowledges_one s events all from.latest_of state.latest_of acknowledged is.committed ended one ok (is_all_committed first_fault' broken') later on tt commits_one_more latest_one still) comes;
            images = λ t. subst (λ (l : List Record). HoldsFirst (acknowledged + one_if ok) broken' l records_of from.moments last) (sym commits_one_more)
                (holds_one acknowledged ok broken' (commits s events) one records_of from.moments moments last count
                (subst (λ (b : Bool). HoldsFirst acknowledged b (commits s events) records_of from.moments moments) usable (holds t)) (images_one t));
          }

      -- the fault that is noted after a commit
      pub first_committed : all ≡ true → (broken' : Bool) → ComesFirst state.first_fault s (events ++ ended ∷ []) (acknowledged + 1) broken'
      first_committed on broken' =
          first_acknowledged s (events ++ ended ∷ []) acknowledged state.broken state.first_fault (acknowledged + 1) broken' (usable_where_all state.first_fault state.broken on) (omega arith) (first_kept s events acknowledged state.broken state.first_fault ended is.comes_first)

      pub first_failed : all ≡ true → (fault : RunFault) (before now : ℕ) → CountsCommit {T = Unit {0}} (Err fault) before now → (broken' : Bool) → broken' ≡ is_disk_failed {T = Unit {0}} (Err fault) →
          ComesFirst (Some (with_fault state.first_fault fault)) s (events ++ ended ∷ []) (acknowledged + 0) broken'
      first_failed on fault before now cause broken' breaks =
          first_uncommitted s events acknowledged state.first_fault state.broken ended one fault broken' before now cause breaks is.none_lost refl (all_few s events all from.latest_of state.latest_of acknowledged is.committed on) commits_one_more
          (usable_where_all state.first_fault state.broken on) is.comes_first
