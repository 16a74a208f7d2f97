-- A build that is under way, and one event more.
use Rattle.std.proofs.Common.{◌≡◌, ℕ, ◌<◌, ◌≤◌, Bool, true, false, not, ◌||◌, ◌&&◌, eqb, cond, List, map, [], ◌∷◌, ◌++◌, length, get_or, Option, Some, None, Err, refl, sym, ap, subst, ◌∙◌, arith, inl, inr}
use Rattle.std.specs.Prelude.{◌↔◌, All, IsTrue, is_some, slice_get, unwrap_or}
use Rattle.std.specs.Option.{option_and_then}
use Rattle.std.specs.Bool.{OnTrue}
use Rattle.std.specs.List.{list_all, list_any}
use Rattle.std.proofs.Math.ListN.{set}
use Rattle.std.proofs.lemmas.Bool.{cases_Bool, cond-true, cond-false, true≢false}
use Rattle.std.proofs.lemmas.List.{append-nil, length-map}
use Rattle.std.proofs.lemmas.List.Elements.{All-weaker}
use Rattle.base.specs.declared.file.FileName.{FileName}
use Rattle.base.specs.declared.graph.BuiltFile.{BuiltFile}
use Rattle.base.specs.declared.graph.Entry.{Entry}
use Rattle.base.specs.declared.child.Request.{Request}
use Rattle.base.specs.declared.child.Exit.{Exit}
use Rattle.base.specs.declared.child.Event.{Event}
use Rattle.base.specs.declared.child.Event.TheVariants.{Started, Ended, Gone}
use Rattle.run_spec.specs.declared.statuses.FileStatus.{FileStatus}
use Rattle.base.specs.PresentGraph.{below}
use Rattle.base.proofs.Below.{length-below}
use Rattle.outside.specs.declared.procs.WaitFault.{WaitFault}
use Rattle.outside.specs.declared.procs.WaitFault.TheVariants as wait
use Rattle.outside.specs.Children.{end_event}
use Rattle.outside.specs.Records.{Record, HasLatest, IsRecorded, deps_at, latest_built, with_record}
use Rattle.run_spec.specs.Moves.{Workload, SchedulerState, Starts, Ends, Loses, is_taken, is_made_so_far, start_now, is_running, position_of, IsLawfulMove, after_move}
use Rattle.run_spec.specs.ChildJournal.{Work, Run, End, BuildProgress, workload_of, schedule_of, child_of_end, next_position, request_at, files_below, run_of, others_of, end_of, exit_at, or_else, has_all, artefact_so_far, after, progress_of, move_of}
use Rattle.run_spec.specs.Settled.{IsAsked}
use Rattle.run_spec.proofs.Artefacts.{deps_before, artefact_free}
use Rattle.run_spec.specs.Commits.{record_at, commit_of, commits_of, commits}
use Rattle.run_spec.specs.Statuses.{status_of, status_at, statuses_of}
use Rattle.run_spec.specs.declared.statuses.FileStatus.TheVariants.{Fresh}
use Rattle.run_spec.proofs.Journal.{made_so_far}
use Rattle.run_spec.proofs.Steps.{now_parts, run_found}
use Rattle.run_laws.proofs.JournalAnswers.{start_asked}
use Rattle.run_scheduler.specs.declared.build_scheduler.BuildScheduler.{BuildScheduler}
use Rattle.run_spec.specs.declared.step.Step.TheVariants.{Start}
use Rattle.run_scheduler.specs.Machines.{IsMachineOf, is_checked, is_stopped_in}
use Rattle.run_spec.specs.Steps.{step_of, step_at}
use Rattle.run_spec.specs.declared.fault.RunFault.{RunFault}
use Rattle.run_spec.specs.declared.fault.RunFault.TheVariants.{NoMemory, StartFailed, ChildLost, DiskFailed}
use Rattle.run_build.specs.Commits.{latest_after, Acknowledges}
use Rattle.run_spec.specs.Faults.{with_fault}
use Rattle.run_build.specs.Faults.{is_all_committed, is_of_disk, ComesFirst}
use Rattle.run_build.specs.Requests.{borrowed_request, AreRecorded, KeepsFirst}
use Rattle.run_build.specs.UnderWay.{Origin, BuildState, with_machine, work_from, IsDueOver, HasRecords, IsUnderWay}
use Rattle.run_build.specs.Statuses.{waiting_status, known_status, known_statuses}
use Rattle.run_spec.specs.Steps.{halted_if}
use Rattle.run_build.proofs.Orderly.{AreOrderly, is_end_of, none_ended, found_child, startable_parts, started_now}
use Rattle.run_spec.proofs.Halting.{halted_not, start_while}
use Rattle.run_build.proofs.EventsThen.{progress_then, moves_then, greedy_then, requests_then, none_lost_then, machine_then, machine_lost, orderly, run_at, ends_then, ends_started, ends_gone}
use Rattle.run_laws.proofs.JournalSettled.{map-below_same}
use Rattle.run_build.proofs.Borrowed.{item_at, All-from_test, made_latest, made_recorded, files_latest, files_now, deps_latest, request_is}
use Rattle.run_build.proofs.StatusesThen.{status_of_exit, statuses_then, statuses_same, status_checked, statuses_fresh, statuses_stale}
use Rattle.run_build.proofs.RecordsThen.{commits_then, uncommitted, records_started, records_left, records_ended}
use Rattle.run_build.proofs.Latest.{latest_elsewhere}
use Rattle.run_build.proofs.Unchecked.{none_printed, fits_as, recorded_current}
use Rattle.run_build.proofs.Acknowledging.{knows_all, all_few, acknowledges_left}
use Rattle.run_build.proofs.FirstFaults.{first_of_none, first_lost}

pub none_first_fault : (first_fault : Option RunFault) → is_some first_fault ≡ false → first_fault ≡ None
none_first_fault None h = refl
none_first_fault (Some fault) h = let nothing : ⊥ = cc in absurd nothing

pub not_first_fault : {A : Type 0} (fault : RunFault) → ◌≡◌ {A = Option RunFault} (Some fault) None → A
not_first_fault fault h = let nothing : ⊥ = cc in absurd nothing

no_some : {X : Type 0} (o : Option X) → is_some o ≡ false → o ≡ None
no_some None h = refl
no_some (Some x) h = let nothing : ⊥ = cc in absurd nothing

-- no end of a file's child among the ends
no_exit : (position : ℕ) (ends : List End) → list_any (is_end_of position) (map child_of_end ends) ≡ false → exit_at ends position ≡ None
unfolding exit_at
no_exit position [] h = refl
no_exit position (end ∷ ends) h =
    elim (cases_Bool (eqb end.position position)) [
      | inl t ↦ absurd (true≢false (sym (rw t at h)))
      | inr f ↦ rw f (no_exit position ends (rw f at h))
    ] where
      true≢false : false ≡ true → ⊥
      true≢false e = cc

-- while nothing is noted all is committed
pub all_while : (first_fault : Option RunFault) (broken : Bool) → first_fault ≡ None → (first_fault ≡ None → broken ≡ false) → is_all_committed first_fault broken ≡ true
all_while first_fault broken none usable = ap (λ (o : Option RunFault). is_all_committed o broken) none ∙ ap not (usable none)

-- after one more fault no more is committed than before
pub still_all : (first_fault : Option RunFault) (fault : RunFault) (broken : Bool) → is_all_committed (Some (with_fault first_fault fault)) broken ≡ true → is_all_committed first_fault broken ≡ true
still_all first_fault NoMemory broken h = let nothing : ⊥ = cc in absurd nothing
still_all None StartFailed broken h = h
still_all None ChildLost broken h = h
still_all None DiskFailed broken h = h
still_all (Some first) StartFailed broken h = h
still_all (Some first) ChildLost broken h = h
still_all (Some first) DiskFailed broken h = h

no_start : (position : ℕ) (idle : Bool) → Start position ≡ step_of None idle → ⊥
no_start position true h = cc
no_start position false h = cc

from_step : (position : ℕ) (next : Option ℕ) (idle : Bool) → Start position ≡ step_of next idle → next ≡ Some position
from_step position None idle h = absurd (no_start position idle h)
from_step position (Some other) idle h = let same : position ≡ other = cc in ap (λ (p : ℕ). Some p) (sym same)

-- if the next step of a machine is a start, the schedule starts that file now
pub started_at : (workload : Workload) (schedule : SchedulerState) (position : ℕ) → Start position ≡ step_at workload schedule → start_now workload schedule ≡ Some position
unfolding step_at
started_at workload schedule position is = from_step position (start_now workload schedule) (eqb (length schedule.running) 0) is

module _ (graph : List Entry) (from : Origin) (events : List Event) (acknowledged : ℕ) (state : BuildState) (is : IsUnderWay graph from events acknowledged state) where
  abbrev s : Work
  s = work_from graph from

  abbrev progress : BuildProgress
  progress = progress_of s events

  abbrev schedule : SchedulerState
  schedule = schedule_of progress

  abbrev all : Bool
  all = is_all_committed state.first_fault state.broken

  -- each file has a status
  pub statuses_count : length state.statuses ≡ length graph
  statuses_count = ap length is.has_status ∙ length-map (below (length graph)) (known_status s progress.ends state.machine) ∙ length-below (length graph)

  abbrev ordered : (position : ℕ) → All (λ dep. dep < position) (deps_at graph position)
  ordered = deps_before graph is.is_graph

  knows : all ≡ true → (name : FileName) → state.latest_of name ≡ latest_after (commits_of graph progress.ends) from.latest_of name
  knows on = knows_all s events all from.latest_of state.latest_of acknowledged is.committed on

  -- if all dependencies of a file are made, each has an artefact
  made_deps : (position : ℕ) → list_all (is_made_so_far (workload_of s) schedule) (deps_at graph position) ≡ true → All (λ dep. is_some (artefact_so_far s progress.ends dep) ≡ true) (deps_at graph position)
  made_deps position made =
      All-weaker (λ dep. is_made_so_far (workload_of s) schedule dep ≡ true) (λ dep. is_some (artefact_so_far s progress.ends dep) ≡ true)
      (λ dep h. sym (made_so_far s progress dep) ∙ h) (deps_at graph position) (All-from_test (is_made_so_far (workload_of s) schedule) (deps_at graph position) made)

  -- and each has a record of what would be asked for it now
  pub recorded_deps : all ≡ true → (position : ℕ) → position < length graph → list_all (is_made_so_far (workload_of s) schedule) (deps_at graph position) ≡ true → All (IsRecorded state.latest_of graph) (deps_at graph position)
  recorded_deps on position lt made k d l =
      made_recorded graph from.latest_of from.slots from.keep_going progress state.latest_of is.is_graph is.recorded (knows on) (get_or (deps_at graph position) k d) (omega (arith, ordered position k d l, lt)) (made_deps position made k d l)

  -- a file is to be started
  module _ (at : ℕ) (start : start_now (workload_of s) (halted_if (is_some state.first_fault) schedule) ≡ Some at) where
    pub nothing_first_fault : state.first_fault ≡ None
    nothing_first_fault = none_first_fault state.first_fault (start_while (workload_of s) (is_some state.first_fault) schedule at start).0

    start_here : start_now (workload_of s) schedule ≡ Some at
    start_here = (start_while (workload_of s) (is_some state.first_fault) schedule at start).1

    all_here : all ≡ true
    all_here = all_while state.first_fault state.broken nothing_first_fault is.usable

    deps_made : list_all (is_made_so_far (workload_of s) schedule) (deps_at graph at) ≡ true
    deps_made = (startable_parts (workload_of s) schedule at (started_now (workload_of s) schedule at start_here).1).2

    inside : at < length graph
    inside = (started_now (workload_of s) schedule at start_here).0

    pub start_recorded : All (IsRecorded state.latest_of graph) (deps_at graph at)
    start_recorded = recorded_deps all_here at inside deps_made

    next_is : next_position s progress ≡ Some at
    next_is = (now_parts s progress at start_here).2

    module _ (ticket : ℕ) (request : Request) (asked : borrowed_request state.latest_of graph at ≡ Some request) where
      abbrev event : Event
      event = Started ticket request

      move_is : Starts at ticket ≡ move_of s progress event
      move_is = ap (λ (o : Option ℕ). Starts (unwrap_or o 0) ticket) (sym next_is)

      requested : option_and_then (request_at s progress.ends) (next_position s progress) ≡ Some request
      requested =
          ap (option_and_then (request_at s progress.ends)) next_is
          ∙ sym (request_is graph from.latest_of from.slots from.keep_going progress state.latest_of is.is_graph is.recorded (knows all_here) at inside (made_deps at deps_made)) ∙ asked

      ends_same : (progress_of s (events ++ event ∷ [])).ends ≡ progress.ends
      ends_same = ends_started s events ticket request

      pub commits_started : commits s (events ++ event ∷ []) ≡ commits s events
      commits_started = ap (commits_of graph) ends_same

      in_time : length (commits s events) ≤ acknowledged
      in_time = omega (arith, all_few s events all from.latest_of state.latest_of acknowledged is.committed all_here)

      -- it is started over files that stay, where no record is current
      due_here : IsDueOver s progress.ends at (files_below s progress.ends at)
      unfolding has_all
      due_here =
          let asked : IsAsked s progress.ends at request = start_asked s ordered progress at request next_is (sym (ap (option_and_then (request_at s progress.ends)) next_is) ∙ requested) in
          record { all_made = asked.over_all; below_is = refl; stale = asked.stale }

      recorded_after : HasRecords s from.latest_of (after s progress event)
      unfolding after
      recorded_after =
          let position : ℕ = unwrap_or (next_position s progress) 0 in
          let same : at ≡ position = ap (λ (o : Option ℕ). unwrap_or o 0) (sym next_is) in
          records_started s from.latest_of progress is.recorded (record { ticket = ticket; position = position; request = request; below = files_below s progress.ends position })
          (subst (λ (p : ℕ). IsDueOver s progress.ends p (files_below s progress.ends p)) same due_here) (progress.taken ++ position ∷ []) progress.halted

      -- after its start
      pub started_under_way : (machine' : BuildScheduler) → ((k : ℕ) → is_checked machine' k ≡ is_checked state.machine k) → is_stopped_in machine' ≡ is_stopped_in state.machine → IsMachineOf machine' (workload_of s) (after_move (workload_of s) (halted_if (is_some state.first_fault) schedule) (Starts at ticket)) →
          IsUnderWay graph from (events ++ event ∷ []) acknowledged (with_machine machine' state.first_fault state)
      started_under_way machine' checked stopped step = record {
        is_graph = is.is_graph;
        moves = moves_then s events event is.moves (subst (IsLawfulMove (workload_of s) schedule) move_is start_here);
        requests = requests_then s events event is.requests requested;
        greedy = λ none. greedy_then s events event (is.greedy none) tt;
        none_lost = λ none. none_lost_then s events event (is.none_lost none) refl;
        usable = is.usable;
        in_step = machine_then s events machine' (is_some state.first_fault) event (Starts at ticket) move_is step;
        halts = stopped ∙ is.halts;
        has_status = is.has_status ∙ statuses_same s progress.ends state.machine machine' checked ∙ ap (λ (ends : List End). known_statuses s ends machine') (sym ends_same);
        recorded = subst (HasRecords s from.latest_of) (sym (progress_then s events event)) recorded_after;
        committed = acknowledges_left s events all from.latest_of state.latest_of acknowledged is.committed event [] all in_time (commits_started ∙ sym (append-nil (commits s events))) (λ on. (on, refl));
        comes_first = first_of_none s (events ++ event ∷ []) acknowledged state.broken state.first_fault nothing_first_fault;
      }

  -- what a file depends on that is checked is recorded
  pub check_recorded : state.first_fault ≡ None → (at : ℕ) → at < length graph → list_all (is_made_so_far (workload_of s) schedule) (deps_at graph at) ≡ true → All (IsRecorded state.latest_of graph) (deps_at graph at)
  check_recorded going at inside made = recorded_deps (all_while state.first_fault state.broken going is.usable) at inside made

  -- a file is checked that wasn't started and has all that it depends on
  module _ (at : ℕ) (inside : at < length graph) (untaken : is_taken schedule at ≡ false) (made : list_all (is_made_so_far (workload_of s) schedule) (deps_at graph at) ≡ true) where
    no_end_here : list_any (is_end_of at) schedule.ended ≡ false
    no_end_here = none_ended schedule at untaken schedule.ended (orderly s events is.is_graph is.moves).ends_taken

    -- the files below it that were built
    abbrev files : List BuiltFile
    files = files_below s progress.ends at

    -- it is made where a record of it is current over them
    pub check_made : is_made_so_far (workload_of s) schedule at ≡ is_some (s.current at files)
    unfolding has_all
    check_made =
        ap is_some (artefact_free s ordered (map child_of_end progress.ends) at inside made ∙ ap (or_else (s.current at files)) (none_printed at progress.ends no_end_here))
        ∙ some_or (s.current at files)
      where
        some_or : (o : Option (List ℕ)) → is_some (or_else o None) ≡ is_some o
        some_or None = refl
        some_or (Some x) = refl

    module _ (entry : Entry) (found : slice_get graph at ≡ Some entry) (going : state.first_fault ≡ None) where
      knows_now : (name : FileName) → state.latest_of name ≡ latest_after (commits_of graph progress.ends) from.latest_of name
      knows_now = knows (all_while state.first_fault state.broken going is.usable)

      -- its latest record is still the one from before the build
      latest_still : state.latest_of entry.name ≡ from.latest_of entry.name
      latest_still = knows_now entry.name ∙ uncommitted graph is.is_graph at entry found progress.ends from.latest_of (none_printed at progress.ends no_end_here)

      still_fits : (fits : Bool) → (IsTrue fits ↔ IsRecorded state.latest_of graph at) → fits ≡ is_some (s.current at files)
      still_fits =
          fits_as from.latest_of state.latest_of graph at entry found latest_still files
          (files_latest graph from.latest_of from.slots from.keep_going progress state.latest_of is.is_graph is.recorded knows_now at entry found (made_deps at made))
          (deps_latest graph from.latest_of from.slots from.keep_going progress state.latest_of is.is_graph is.recorded knows_now at entry found (made_deps at made))

    -- so that it fits exactly where it is current
    pub still_recorded : state.first_fault ≡ None → (fits : Bool) → (IsTrue fits ↔ IsRecorded state.latest_of graph at) → fits ≡ is_some (s.current at files)
    still_recorded going fits says =
        let entry = item_at graph at inside in
        still_fits entry.0 entry.1 going fits says

    pub checked_under_way : (machine' : BuildScheduler) (fresh : Bool) (statuses' : List FileStatus) → fresh ≡ is_some (s.current at files) → is_checked state.machine at ≡ false → ((k : ℕ) → is_checked machine' k ≡ (is_checked state.machine k || eqb at k))
        → is_stopped_in machine' ≡ is_stopped_in state.machine → statuses' ≡ cond fresh (set state.statuses at Fresh) state.statuses → IsMachineOf machine' (workload_of s) (halted_if (is_some state.first_fault) schedule)
        → IsUnderWay graph from events acknowledged (record { machine = machine'; statuses = statuses'; first_fault = state.first_fault; latest_of = state.latest_of; broken = state.broken })
    checked_under_way machine' fresh statuses' says new checked stopped changed step = record {
      is_graph = is.is_graph;
      moves = is.moves;
      requests = is.requests;
      greedy = is.greedy;
      none_lost = is.none_lost;
      usable = is.usable;
      in_step = step;
      halts = stopped ∙ is.halts;
      has_status = changed ∙ has_status_by fresh refl;
      recorded = is.recorded;
      committed = is.committed;
      comes_first = is.comes_first;
    } where
      status_here : (f : Bool) → fresh ≡ f → status_at s progress.ends at ≡ cond f Fresh (waiting_status s.keep_going)
      status_here f e = status_checked s progress.ends at f (no_exit at progress.ends no_end_here) (sym e ∙ says ∙ sym check_made)

      has_status_by : (f : Bool) → fresh ≡ f → cond f (set state.statuses at Fresh) state.statuses ≡ known_statuses s progress.ends machine'
      has_status_by true e = ap (λ (l : List FileStatus). set l at Fresh) is.has_status ∙ statuses_fresh s progress.ends state.machine machine' at inside new checked (status_here true e)
      has_status_by false e = is.has_status ∙ statuses_stale s progress.ends state.machine machine' at inside new checked (status_here false e)

  waits : (keep_going : Bool) → waiting_status keep_going ≡ status_of keep_going None None
  waits true = refl
  waits false = refl

  -- the statuses that it knows are the statuses by its events, if no unchecked file runs or is made
  pub statuses_over : ((at : ℕ) → at < length graph → is_checked state.machine at ≡ false → (is_taken schedule at ≡ false) × (is_made_so_far (workload_of s) schedule at ≡ false)) → state.statuses ≡ statuses_of s events
  statuses_over idle = is.has_status ∙ map-below_same (known_status s progress.ends state.machine) (status_at s progress.ends) (length graph) each
    where
      each : (k : ℕ) → k < length graph → known_status s progress.ends state.machine k ≡ status_at s progress.ends k
      each k lt = elim (cases_Bool (is_checked state.machine k)) [
        | inl old ↦ cond-true (is_checked state.machine k) (status_at s progress.ends k) (waiting_status s.keep_going) old
        | inr new ↦
            let left = idle k lt new in
            let exit : exit_at progress.ends k ≡ None = no_exit k progress.ends (none_ended schedule k left.0 schedule.ended (orderly s events is.is_graph is.moves).ends_taken) in
            let none : artefact_so_far s progress.ends k ≡ None = no_some (artefact_so_far s progress.ends k) (sym (made_so_far s progress k) ∙ left.1) in
            cond-false (is_checked state.machine k) (status_at s progress.ends k) (waiting_status s.keep_going) new ∙ waits s.keep_going
            ∙ ap (status_of s.keep_going None) (sym none) ∙ ap (λ (o : Option Exit). status_of s.keep_going o (artefact_so_far s progress.ends k)) (sym exit)
      ]

  -- a fault halts it
  pub halted_under_way : (machine' : BuildScheduler) (fault : RunFault) → ((k : ℕ) → is_checked machine' k ≡ is_checked state.machine k) → is_stopped_in machine' ≡ true → IsMachineOf machine' (workload_of s) (halted_if true schedule) → (is_all_committed (Some fault) state.broken ≡ true → all ≡ true) → ComesFirst (Some fault) s events acknowledged state.broken →
      IsUnderWay graph from events acknowledged (with_machine machine' (Some fault) state)
  halted_under_way machine' fault checked stopped step still first = record {
    is_graph = is.is_graph;
    moves = is.moves;
    requests = is.requests;
    greedy = not_first_fault fault;
    none_lost = not_first_fault fault;
    usable = not_first_fault fault;
    in_step = step;
    halts = stopped;
    has_status = is.has_status ∙ statuses_same s progress.ends state.machine machine' checked;
    recorded = is.recorded;
    committed = record {
      few = is.committed.few;
      whole = weaker_all (is_all_committed (Some fault) state.broken) still;
      waits = is.committed.waits;
      latest = is.committed.latest;
    };
    comes_first = first;
  } where
    weaker_all : (b : Bool) → (b ≡ true → all ≡ true) → OnTrue b (acknowledged ≡ length (commits s events))
    weaker_all true h = all_few s events all from.latest_of state.latest_of acknowledged is.committed (h refl)
    weaker_all false h = tt

  recorded_lost : (ticket : ℕ) → HasRecords s from.latest_of (after s progress (Gone ticket))
  unfolding after
  recorded_lost ticket = records_left s from.latest_of progress is.recorded ticket progress.taken true

  -- the end of a child is lost
  pub lost_under_way : (ticket : ℕ) (machine' : BuildScheduler) (fault : RunFault) → ((k : ℕ) → is_checked machine' k ≡ is_checked state.machine k) → is_stopped_in machine' ≡ true → is_of_disk fault ≡ false → is_running schedule ticket ≡ true → IsMachineOf machine' (workload_of s) (after_move (workload_of s) (halted_if (is_some state.first_fault) schedule) (Loses ticket)) →
      IsUnderWay graph from (events ++ Gone ticket ∷ []) acknowledged (with_machine machine' (Some (with_fault state.first_fault fault)) state)
  lost_under_way ticket machine' why checked stopped kind runs step =
      let fault : RunFault = with_fault state.first_fault why in
      let still : is_all_committed (Some fault) state.broken ≡ true → all ≡ true = still_all state.first_fault why state.broken in
      let same : (progress_of s (events ++ Gone ticket ∷ [])).ends ≡ progress.ends = ends_gone s events ticket in
      record {
        is_graph = is.is_graph;
        moves = moves_then s events (Gone ticket) is.moves runs;
        requests = requests_then s events (Gone ticket) is.requests tt;
        greedy = not_first_fault fault;
        none_lost = not_first_fault fault;
        usable = not_first_fault fault;
        in_step = machine_lost s events machine' (is_some state.first_fault) true ticket step;
        halts = stopped;
        has_status = is.has_status ∙ statuses_same s progress.ends state.machine machine' checked ∙ ap (λ (ends : List End). known_statuses s ends machine') (sym same);
        recorded = subst (HasRecords s from.latest_of) (sym (progress_then s events (Gone ticket))) (recorded_lost ticket);
        committed = acknowledges_left s events all from.latest_of state.latest_of acknowledged is.committed (Gone ticket) [] (is_all_committed (Some fault) state.broken) tt (ap (commits_of graph) same ∙ sym (append-nil (commits s events))) (λ on. (still on, refl));
        comes_first = first_lost s events acknowledged state.broken ticket state.first_fault why kind (λ none. (is.none_lost none, all_at_first none)) is.comes_first;
      } where
        all_at_first : state.first_fault ≡ None → length (commits s events) ≤ acknowledged
        all_at_first none = omega (arith, all_few s events all from.latest_of state.latest_of acknowledged is.committed (all_while state.first_fault state.broken none is.usable))

  commits_lost : (ticket : ℕ) → commits s (events ++ Gone ticket ∷ []) ≡ commits s events
  commits_lost ticket = ap (commits_of graph) (ends_gone s events ticket)

  pub commits_fault : (fault : WaitFault) → commits s (events ++ end_event (Err fault) ∷ []) ≡ commits s events
  commits_fault (wait.NoMemory ticket) = commits_lost ticket
  commits_fault (wait.Lost ticket) = commits_lost ticket

  -- a child ends
  module _ (ticket at : ℕ) (exit : Exit) (there : position_of ticket schedule.running ≡ Some at) (inside : at < length graph) where
    abbrev ended : Event
    ended = Ended ticket exit

    pub run : (r : Run) × (run_of ticket progress.runs ≡ Some r) × (r.position ≡ at)
    run = run_at ticket at progress.runs there

    children : AreOrderly (workload_of s) schedule
    children = orderly s events is.is_graph is.moves

    unmade : artefact_so_far s progress.ends at ≡ None
    unmade =
        let found = found_child (λ c. is_made_so_far (workload_of s) schedule c.position ≡ false) ticket at schedule.running there children.unmade in
        no_some (artefact_so_far s progress.ends at) (sym (made_so_far s progress at) ∙ subst (λ (p : ℕ). is_made_so_far (workload_of s) schedule p ≡ false) found.1 found.2)

    free : has_all (artefact_so_far s progress.ends) (deps_at graph at) ≡ true
    unfolding has_all
    free =
        let found = found_child (λ c. list_all (is_made_so_far (workload_of s) schedule) ((workload_of s).deps c.position) ≡ true) ticket at schedule.running there children.ready in
        subst (λ (p : ℕ). list_all (is_made_so_far (workload_of s) schedule) (deps_at graph p) ≡ true) found.1 found.2

    unended : exit_at progress.ends at ≡ None
    unended =
        let found = found_child (λ c. list_any (is_end_of c.position) schedule.ended ≡ false) ticket at schedule.running there children.unended in
        no_exit at progress.ends (subst (λ (p : ℕ). list_any (is_end_of p) schedule.ended ≡ false) found.1 found.2)

    -- all that its file depends on has a record
    pub end_latest : all ≡ true → All (HasLatest state.latest_of graph) (deps_at graph at)
    unfolding has_all
    end_latest on k d l =
        made_latest graph from.latest_of from.slots from.keep_going progress state.latest_of is.is_graph is.recorded (knows on) (get_or (deps_at graph at) k d) (omega (arith, ordered at k d l, inside)) (made_deps at free k d l)

    -- the files that it was started over
    pub built : List BuiltFile
    built = run.0.below

    abbrev pub end : End
    end = record { position = at; request = run.0.request; below = run.0.below; exit = exit }

    -- are the ones that the store has
    pub built_now : all ≡ true → run.0.below ≡ map (latest_built state.latest_of graph) (deps_at graph at)
    unfolding has_all
    built_now on =
        let due : IsDueOver s progress.ends run.0.position run.0.below = run_found (λ r. IsDueOver s progress.ends r.position r.below) progress.runs ticket run.0 run.1 is.recorded.runs in
        let entry = item_at graph at inside in
        due.below_is ∙ ap (files_below s progress.ends) run.2
        ∙ files_now graph from.latest_of from.slots from.keep_going progress state.latest_of is.is_graph is.recorded (knows on) at entry.0 entry.1 (made_deps at free)

    -- and the record of its file isn't of what would be asked for it now
    pub ended_unrecorded : all ≡ true → IsRecorded state.latest_of graph at → ⊥
    unfolding has_all
    ended_unrecorded on recorded =
        let due : IsDueOver s progress.ends run.0.position run.0.below = run_found (λ r. IsDueOver s progress.ends r.position r.below) progress.runs ticket run.0 run.1 is.recorded.runs in
        let entry = item_at graph at inside in
        let found = found_child (λ c. list_any (is_end_of c.position) schedule.ended ≡ false) ticket at schedule.running there children.unended in
        let none : list_any (is_end_of at) schedule.ended ≡ false = subst (λ (p : ℕ). list_any (is_end_of p) schedule.ended ≡ false) found.1 found.2 in
        let below_is : run.0.below ≡ files_below s progress.ends at = due.below_is ∙ ap (files_below s progress.ends) run.2 in
        let stale : s.current at (files_below s progress.ends at) ≡ None =
        ap (λ (files : List BuiltFile). s.current at files) (sym below_is) ∙ ap (λ (p : ℕ). s.current p run.0.below) (sym run.2) ∙ due.stale in
        let current =
        recorded_current from.latest_of state.latest_of graph at entry.0 entry.1
        (knows on entry.0.name ∙ uncommitted graph is.is_graph at entry.0 entry.1 progress.ends from.latest_of (none_printed at progress.ends none)) (files_below s progress.ends at)
        (files_latest graph from.latest_of from.slots from.keep_going progress state.latest_of is.is_graph is.recorded (knows on) at entry.0 entry.1 (made_deps at free))
        (deps_latest graph from.latest_of from.slots from.keep_going progress state.latest_of is.is_graph is.recorded (knows on) at entry.0 entry.1 (made_deps at free)) recorded in
        true≢false (sym current ∙ ap is_some stale)

    -- so its file isn't among the first files if all of these are recorded, and their records stay
    pub ended_keeps : all ≡ true → (count : ℕ) → AreRecorded state.latest_of graph count → (files : List BuiltFile) (artefact : List ℕ) → KeepsFirst graph count state.latest_of (with_record (record_at graph at files artefact) state.latest_of)
    ended_keeps on count recorded files artefact position entry lt found =
        latest_elsewhere graph is.is_graph at position entry found (λ same. ended_unrecorded on (subst (IsRecorded state.latest_of graph) (sym same) (recorded position lt))) files artefact state.latest_of

    ends_are : (progress_of s (events ++ ended ∷ [])).ends ≡ progress.ends ++ end ∷ []
    ends_are = ends_then s events ticket exit run.0 run.1 ∙ ap (λ (p : ℕ). progress.ends ++ (record { position = p; request = run.0.request; below = run.0.below; exit = exit }) ∷ []) run.2

    pub commits_ended : commits s (events ++ ended ∷ []) ≡ commits s events ++ commit_of graph end
    commits_ended = ap (commits_of graph) ends_are ∙ commits_then graph progress.ends end

    statuses_ended : (machine' : BuildScheduler) → is_checked state.machine at ≡ true → ((k : ℕ) → is_checked machine' k ≡ is_checked state.machine k)
        → ((k : ℕ) → k < length graph → is_checked state.machine k ≡ true → list_all (is_made_so_far (workload_of s) schedule) (deps_at graph k) ≡ true)
        → (status : FileStatus) → status ≡ status_of_exit exit → set state.statuses at status ≡ known_statuses s (progress_of s (events ++ ended ∷ [])).ends machine'
    unfolding has_all
    statuses_ended machine' here checked ready status status_is =
        ap (λ (l : List FileStatus). set l at status) is.has_status
        ∙ statuses_then s is.is_graph progress.ends at run.0.request run.0.below exit inside free unmade unended state.machine machine' here checked ready status status_is
        ∙ ap (λ (ends : List End). known_statuses s ends machine') (sym ends_are)

    recorded_ended : HasRecords s from.latest_of (progress_of s (events ++ ended ∷ []))
    unfolding after
    recorded_ended =
        subst (HasRecords s from.latest_of) (sym (progress_then s events ended))
        (subst (λ (r : Option Run). HasRecords s from.latest_of (record { taken = progress.taken; runs = others_of ticket progress.runs; ends = progress.ends ++ end_of r exit; halted = progress.halted || (not s.keep_going && not (eqb exit.code 0)) })) (sym run.1)
        (records_ended s from.latest_of progress is.recorded is.is_graph ticket run.0 run.1 exit (ap (exit_at progress.ends) run.2 ∙ unended) progress.taken (progress.halted || (not s.keep_going && not (eqb exit.code 0)))))

    -- its machine is that of what has happened
    pub machine_ended : (machine' : BuildScheduler) → IsMachineOf machine' (workload_of s) (after_move (workload_of s) (halted_if (is_some state.first_fault) schedule) (Ends ticket (eqb exit.code 0) exit.output)) →
        IsMachineOf machine' (workload_of s) (halted_if (is_some state.first_fault) (schedule_of (progress_of s (events ++ ended ∷ []))))
    machine_ended machine' step = machine_then s events machine' (is_some state.first_fault) ended (Ends ticket (eqb exit.code 0) exit.output) refl step

    -- after its end
    pub ended_under_way : (runs : is_running schedule ticket ≡ true) (greedy : start_now (workload_of s) (halted_if (is_some state.first_fault) schedule) ≡ None) (status : FileStatus) → status ≡ status_of_exit exit →
        (acknowledged' : ℕ) (machine' : BuildScheduler) (first_fault' : Option RunFault) (later : FileName → Option Record) (broken' : Bool) → is_checked state.machine at ≡ true → ((k : ℕ) → is_checked machine' k ≡ is_checked state.machine k) →
        ((k : ℕ) → k < length graph → is_checked state.machine k ≡ true → list_all (is_made_so_far (workload_of s) schedule) (deps_at graph k) ≡ true) → is_stopped_in machine' ≡ is_some first_fault' →
        (first_fault' ≡ None → (state.first_fault ≡ None) × (broken' ≡ false)) →
        IsMachineOf machine' (workload_of s) (halted_if (is_some first_fault') (schedule_of (progress_of s (events ++ ended ∷ [])))) →
        Acknowledges s (events ++ ended ∷ []) (is_all_committed first_fault' broken') from.latest_of later acknowledged' → ComesFirst first_fault' s (events ++ ended ∷ []) acknowledged' broken' →
        IsUnderWay graph from (events ++ ended ∷ []) acknowledged' (record { machine = machine'; statuses = set state.statuses at status; first_fault = first_fault'; latest_of = later; broken = broken' })
    ended_under_way runs greedy status status_is acknowledged' machine' first_fault' later broken' here checked ready on none step committed first = record {
      is_graph = is.is_graph;
      moves = moves_then s events ended is.moves runs;
      requests = requests_then s events ended is.requests tt;
      greedy = λ n. greedy_then s events ended (is.greedy (none n).0) (start_none (none n).0);
      none_lost = λ n. none_lost_then s events ended (is.none_lost (none n).0) refl;
      usable = λ n. (none n).1;
      in_step = step;
      halts = on;
      has_status = statuses_ended machine' here checked ready status status_is;
      recorded = recorded_ended;
      committed = committed;
      comes_first = first;
    } where
      start_none : state.first_fault ≡ None → start_now (workload_of s) schedule ≡ None
      start_none n = ap (start_now (workload_of s)) (sym (halted_not schedule)) ∙ ap (λ (o : Option RunFault). start_now (workload_of s) (halted_if (is_some o) schedule)) (sym n) ∙ greedy
