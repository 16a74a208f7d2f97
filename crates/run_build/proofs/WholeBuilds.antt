-- A build from before its first event to its end.
use Rattle.std.proofs.Common.{◌≡◌, ℕ, ◌<◌, Bool, true, false, List, [], ◌++◌, length, get_or, map, inl, inr, Option, Some, None, refl, sym, ap, subst, ◌∙◌, arith}
use Rattle.std.specs.Prelude.{slice_get, is_some}
use Rattle.std.specs.Bool.{OnTrue, OnFalse}
use Rattle.std.specs.Option.{option_map}
use Rattle.std.proofs.lemmas.Bool.{cases_Bool, cond-true, cond-false, false≢true, OnTrue_from}
use Rattle.std.proofs.lemmas.List.{append-nil, length-map}
use Rattle.std.proofs.lemmas.Option.{same_Some, slice_get_within, slice_get-get_or, slice_get-map}
use Rattle.std.proofs.lemmas.List.Elements.{All-nil}
use Rattle.base.specs.declared.graph.Entry.{Entry}
use Rattle.base.specs.declared.child.Request.{Request}
use Rattle.base.specs.declared.child.Exit.{Exit}
use Rattle.base.specs.declared.child.Event.{Event}
use Rattle.run_spec.specs.declared.statuses.FileStatus.{FileStatus}
use Rattle.base.specs.Graphs.{IsGraph}
use Rattle.base.specs.PresentGraph.{below}
use Rattle.base.proofs.Below.{length-below, get_or-below}
use Rattle.outside.specs.Records.{IsRecorded}
use Rattle.outside.specs.Records.{Record}
use Rattle.outside.specs.Children.{started_with}
use Rattle.outside.specs.Disks.{Image, Moments, IsDurable, reads_of}
use Rattle.outside.specs.Commits.{CommitsFirst}
use Rattle.outside.proofs.CommitLaws.{commits_nothing}
use Rattle.outside.specs.FaultCounts.{BuildFaultCounts}
use Rattle.run_spec.specs.Moves.{SchedulerState, empty_schedule, is_taken, is_made_so_far, LawfulMoves, GreedyMoves, IsFinished}
use Rattle.run_spec.specs.ChildJournal.{Work, Run, End, artefact_so_far, workload_of, schedule_of, after_all, progress_of, moves_after, AreRequested, EachAfter, Lawful, exit_at, artefact_after, files_below}
use Rattle.run_spec.specs.Statuses.{status_of, status_at, statuses_of}
use Rattle.run_spec.specs.Commits.{record_at, commits}
use Rattle.run_spec.proofs.Waiting.{waits_none}
use Rattle.run_scheduler.specs.declared.build_scheduler.BuildScheduler.{BuildScheduler}
use Rattle.run_scheduler.specs.Machines.{IsMachineOf, is_checked, is_stopped_in}
use Rattle.run_build.specs.Statuses.{waiting_status, known_status, known_statuses}
use Rattle.run_spec.specs.declared.fault.RunFault.{RunFault}
use Rattle.run_spec.specs.declared.fault.RunFault.TheVariants.{NoMemory}
use Rattle.run_build.specs.Commits.{Acknowledges, HoldsFirst}
use Rattle.run_spec.specs.Faults.{CountsBy}
use Rattle.run_build.specs.Faults.{is_all_committed}
use Rattle.run_build.specs.UnderWay.{Origin, BuildState, with_machine, Told, work_from, IsUnderWay, IsJournalled, GoesOn, Goes}
use Rattle.run_spec.specs.Steps.{halted_if}
use Rattle.run_build.specs.Ran.{BuildObjects, BuildRan, is_made}
use Rattle.run_build.proofs.Acknowledging.{knows_all}
use Rattle.run_spec.proofs.Halting.{halted_not}
use Rattle.run_build.proofs.Borrowed.{knows_made, made_recorded}
use Rattle.run_build.proofs.RecordsThen.{records_at_first}
use Rattle.run_build.proofs.UnderWayThen.{all_while, statuses_over}

zero_committed : (all : Bool) → OnTrue all (◌≡◌ {A = ℕ} 0 0)
zero_committed true = refl
zero_committed false = tt

pub on_false : {A : Type 0} (b : Bool) → A → OnFalse b A
on_false true a = tt
on_false false a = a

-- nothing has happened yet
pub first_under_way : (graph : List Entry) (from : Origin) (machine : BuildScheduler) (statuses : List FileStatus) (broken : Bool) → IsGraph graph → IsMachineOf machine (workload_of (work_from graph from)) empty_schedule → is_stopped_in machine ≡ false → statuses ≡ known_statuses (work_from graph from) [] machine →
    broken ≡ false → IsUnderWay graph from [] 0 (record { machine = machine; statuses = statuses; first_fault = None; latest_of = from.latest_of; broken = broken })
unfolding after_all moves_after LawfulMoves GreedyMoves AreRequested
first_under_way graph from machine statuses broken is step on has_status usable = record {
  is_graph = is;
  moves = tt;
  requests = tt;
  greedy = λ n. tt;
  none_lost = λ n. refl;
  usable = λ n. usable;
  in_step = step;
  halts = on;
  has_status = has_status;
  recorded = records_at_first (work_from graph from) from.latest_of;
  committed = record {
    few = omega arith;
    whole = zero_committed (is_all_committed None broken);
    waits = waits_none (work_from graph from) 0;
    latest = λ name. refl;
  };
  comes_first = tt;
}

pub first_journal : (answer : Request → Exit) (s : Work) (journal : List Event) → IsJournalled answer s [] journal journal
unfolding after_all EachAfter
first_journal answer s journal = record {
  follows = sym (append-nil journal);
  tickets = tt;
  answered = tt;
  started = All-nil (λ (run : Run). started_with run.ticket [] ≡ Some run.request);
  started_since = All-nil (λ (run : Run). started_with run.ticket journal ≡ Some run.request);
}

-- nothing is committed where each image is what reads give
pub holds_nothing : (broken : Bool) (more : List Record) (records_of : Image → List Record) (moments : Moments) → broken ≡ false → IsDurable moments.now → HoldsFirst 0 broken more records_of moments moments
holds_nothing broken more records_of moments usable durable = record {
  reads = on_false broken (sym (append-nil (records_of (reads_of moments.now))));
  images = subst (λ (b : Bool). CommitsFirst 0 b (records_of (reads_of moments.now)) more records_of moments moments) (sym usable)
      (commits_nothing (records_of (reads_of moments.now)) more records_of moments (λ image is. ap records_of (durable image is)));
  untouched = λ none. refl;
}

pub no_commits : (s : Work) → commits s [] ≡ []
unfolding after_all
no_commits s = refl

-- what was done before the first event: nothing
pub ran_nothing : (tells told : Type 0) (answer : Request → Exit) (records_of : Image → List Record) (s : Work) (objects : BuildObjects) (broken : Bool) (Says : List Event → Type 0) →
    broken ≡ false → (told → IsDurable objects.moments.now) → BuildRan tells told answer records_of s objects objects (record { ended = false; fault = Some NoMemory; broken = broken }) Says
unfolding after_all moves_after LawfulMoves AreRequested EachAfter
ran_nothing tells told answer records_of s objects broken Says usable durable = record {
  events = [];
  journal = λ t. sym (append-nil objects.journal);
  moves = tt;
  requests = tt;
  greedy = tt;
  finished = tt;
  none_lost = tt;
  lawful = λ t. record { moves = tt; requests = tt; tickets = tt };
  answered = λ t. tt;
  whole = λ t. tt;
  says = tt;
  acknowledged = 0;
  committed = record { few = omega arith; whole = tt; waits = waits_none s 0; latest = λ name. refl };
  comes_first = tt;
  recorded = tt;
  images = λ t. holds_nothing broken (commits s []) records_of objects.moments usable (durable t);
}

module _ (tells told : Type 0) (answer : Request → Exit) (records_of : Image → List Record) (graph : List Entry) (from : Origin) (state : BuildState) (now : Told)
    (goes : Goes tells told answer records_of graph from state now) where
  abbrev s : Work
  s = work_from graph from

  abbrev at_first : BuildObjects
  at_first = record { latest_of = from.latest_of; journal = from.journal; moments = from.moments }

  abbrev at_last : BuildObjects
  at_last = record { latest_of = state.latest_of; journal = now.journal; moments = now.moments }

  -- the latest records of the files that are made
  knows_files : is_all_committed state.first_fault state.broken ≡ true → (position : ℕ) (entry : Entry) (artefact : List ℕ) → slice_get graph position ≡ Some entry → artefact_after s goes.events position ≡ Some artefact →
      state.latest_of entry.name ≡ Some (record_at graph position (files_below s (progress_of s goes.events).ends position) artefact)
  knows_files on position entry artefact at is =
      knows_made graph from.latest_of from.slots from.keep_going (progress_of s goes.events) state.latest_of goes.under_way.is_graph goes.under_way.recorded (knows_all s goes.events (is_all_committed state.first_fault state.broken) from.latest_of state.latest_of goes.acknowledged goes.under_way.committed on) position entry artefact at is

  lawful_of : tells → Lawful s goes.events
  lawful_of t = record { moves = goes.under_way.moves; requests = goes.under_way.requests; tickets = (goes.journal t).tickets }

  -- a fault has ended it
  ran_halted : (Says : List Event → Type 0) → BuildRan tells told answer records_of s at_first at_last (record { ended = false; fault = state.first_fault; broken = state.broken }) Says
  ran_halted Says = record {
    events = goes.events;
    journal = λ t. (goes.journal t).follows;
    moves = goes.under_way.moves;
    requests = goes.under_way.requests;
    greedy = tt;
    finished = tt;
    none_lost = tt;
    lawful = lawful_of;
    answered = λ t. (goes.journal t).answered;
    whole = λ t. tt;
    says = tt;
    acknowledged = goes.acknowledged;
    committed = goes.under_way.committed;
    comes_first = goes.under_way.comes_first;
    recorded = OnTrue_from (is_all_committed state.first_fault state.broken) _ knows_files;
    images = goes.images;
  }

  pub ran_fault : (fault : RunFault) → state.first_fault ≡ Some fault → (Says : List Event → Type 0) →
      BuildRan tells told answer records_of s at_first at_last (record { ended = false; fault = Some fault; broken = state.broken }) Says
  ran_fault fault is Says =
      subst (λ (o : Option RunFault). BuildRan tells told answer records_of s at_first at_last (record { ended = false; fault = o; broken = state.broken }) Says) is (ran_halted Says)

  -- it has ended by itself
  pub ran_done : state.first_fault ≡ None → IsFinished (workload_of s) (halted_if (is_some state.first_fault) (schedule_of (progress_of s goes.events))) → ((at : ℕ) → at < length graph → is_checked state.machine at ≡ false → (is_taken (schedule_of (progress_of s goes.events)) at ≡ false) × (is_made_so_far (workload_of s) (schedule_of (progress_of s goes.events)) at ≡ false))
      → (said : List FileStatus) → said ≡ state.statuses →
      BuildRan tells told answer records_of s at_first at_last (record { ended = true; fault = None; broken = state.broken }) (λ events. said ≡ statuses_of s events)
  ran_done none finished idle said same =
      let schedule : SchedulerState = schedule_of (progress_of s goes.events) in
      let over : IsFinished (workload_of s) schedule = subst (IsFinished (workload_of s)) (ap (λ (o : Option RunFault). halted_if (is_some o) schedule) none ∙ halted_not schedule) finished in
      let still : is_all_committed state.first_fault state.broken ≡ is_all_committed None state.broken = ap (λ (o : Option RunFault). is_all_committed o state.broken) none in
      record {
        events = goes.events;
        journal = λ t. (goes.journal t).follows;
        moves = goes.under_way.moves;
        requests = goes.under_way.requests;
        greedy = goes.under_way.greedy none;
        finished = over;
        none_lost = goes.under_way.none_lost none;
        lawful = lawful_of;
        answered = λ t. (goes.journal t).answered;
        whole = λ t. record { lawful = lawful_of t; greedy = goes.under_way.greedy none; finished = over; none_lost = goes.under_way.none_lost none };
        says = same ∙ statuses_over graph from goes.events goes.acknowledged state goes.under_way idle;
        acknowledged = goes.acknowledged;
        committed = subst (λ (all : Bool). Acknowledges s goes.events all from.latest_of state.latest_of goes.acknowledged) still goes.under_way.committed;
        comes_first = tt;
        recorded = OnTrue_from (is_all_committed None state.broken) _ (λ on. knows_files (still ∙ on));
        images = goes.images;
      }

-- a file that is fresh or compiled has an artefact
has_status_has : (keep_going : Bool) (exit : Option Exit) (artefact : Option (List ℕ)) → is_made (status_of keep_going exit artefact) ≡ true → is_some artefact ≡ true
has_status_has keep_going exit (Some artefact) made = refl
has_status_has keep_going (Some exit) None made = absurd (false≢true made)
has_status_has true None None made = absurd (false≢true made)
has_status_has false None None made = absurd (false≢true made)

-- the status of a file among statuses of all files
status_of_list : (statuses : ℕ → FileStatus) (count position : ℕ) (status : FileStatus) → slice_get (map statuses (below count)) position ≡ Some status → (position < count) × (statuses position ≡ status)
status_of_list statuses count position status at =
    let inside : position < count = subst (λ (n : ℕ). position < n) (length-map (below count) statuses ∙ length-below count) (slice_get_within (map statuses (below count)) position status at) in
    let here : slice_get (below count) position ≡ Some position =
    slice_get-get_or (below count) position 0 (subst (λ (n : ℕ). position < n) (sym (length-below count)) inside) ∙ ap (λ (p : ℕ). Some p) (get_or-below count position 0 inside) in
    (inside, same_Some (statuses position) status (sym (slice_get-map statuses (below count) position ∙ ap (option_map statuses) here) ∙ at))

waits_unmade : (keep_going : Bool) → is_made (waiting_status keep_going) ≡ false
waits_unmade true = refl
waits_unmade false = refl

-- a file that is known to be fresh or compiled has an artefact
known_has : (s : Work) (ends : List End) (machine : BuildScheduler) (position : ℕ) → is_made (known_status s ends machine position) ≡ true → is_some (artefact_so_far s ends position) ≡ true
known_has s ends machine position made = elim (cases_Bool (is_checked machine position)) [
  | inl old ↦
      has_status_has s.keep_going (exit_at ends position) (artefact_so_far s ends position)
      (ap is_made (sym (cond-true (is_checked machine position) (status_at s ends position) (waiting_status s.keep_going) old)) ∙ made)
  | inr new ↦
      absurd
      (false≢true (sym (waits_unmade s.keep_going) ∙ ap is_made (sym (cond-false (is_checked machine position) (status_at s ends position) (waiting_status s.keep_going) new)) ∙ made))
]

-- each file that is fresh or compiled has a record of what would be asked for it now
pub statuses_recorded : (graph : List Entry) (from : Origin) (events : List Event) (acknowledged : ℕ) (state : BuildState) → IsUnderWay graph from events acknowledged state → state.first_fault ≡ None →
    (position : ℕ) (status : FileStatus) → slice_get state.statuses position ≡ Some status → is_made status ≡ true → IsRecorded state.latest_of graph position
statuses_recorded graph from events acknowledged state is none position status at made =
    let s : Work = work_from graph from in
    let on : is_all_committed state.first_fault state.broken ≡ true = all_while state.first_fault state.broken none is.usable in
    let ends : List End = (progress_of s events).ends in
    let there = status_of_list (known_status s ends state.machine) (length graph) position status (ap (λ (l : List FileStatus). slice_get l position) (sym is.has_status) ∙ at) in
    made_recorded graph from.latest_of from.slots from.keep_going (progress_of s events) state.latest_of is.is_graph is.recorded (knows_all s events (is_all_committed state.first_fault state.broken) from.latest_of state.latest_of acknowledged is.committed on) position there.0
    (known_has s ends state.machine position (ap is_made there.1 ∙ made))

-- after a start, or where it failed
pub goes_on : (tells told : Type 0) (answer answers : Request → Exit) (records_of : Image → List Record) (graph : List Entry) (from : Origin) (state : BuildState) (now : Told) (machine : BuildScheduler) (first_fault : Option RunFault) (journal : List Event) → answers ≡ answer →
    (goes : Goes tells told answer records_of graph from state now) →
    ((tells → IsJournalled answers (work_from graph from) goes.events from.journal now.journal) → GoesOn tells answers graph from goes.events goes.acknowledged (with_machine machine first_fault state) journal) →
    Goes tells told answer records_of graph from (with_machine machine first_fault state) (record { journal = journal; moments = now.moments })
goes_on tells told answer answers records_of graph from state now machine first_fault journal same goes then =
    let on = then (λ t. subst (λ (a : Request → Exit). IsJournalled a (work_from graph from) goes.events from.journal now.journal) (sym same) (goes.journal t)) in
    record {
      events = goes.events ++ on.more;
      acknowledged = goes.acknowledged;
      under_way = on.under_way;
      journal = λ t. subst (λ (a : Request → Exit). IsJournalled a (work_from graph from) (goes.events ++ on.more) from.journal journal) same (on.journal t);
      images = λ t. subst (λ (more : List Record). HoldsFirst goes.acknowledged state.broken more records_of from.moments now.moments) (sym on.same) (goes.images t);
    }

-- after one step more over children whose answers are the same
pub goes_by : (tells told : Type 0) (answer answers : Request → Exit) (records_of : Image → List Record) (graph : List Entry) (from : Origin) (before after : BuildState) (now later : Told) → answers ≡ answer →
    Goes tells told answer records_of graph from before now → (Goes tells told answers records_of graph from before now → Goes tells told answers records_of graph from after later) → Goes tells told answer records_of graph from after later
goes_by tells told answer answers records_of graph from before after now later same goes then =
    subst (λ (a : Request → Exit). Goes tells told a records_of graph from after later) same
    (then (subst (λ (a : Request → Exit). Goes tells told a records_of graph from before now) (sym same) goes))
