-- What the program promises of any number of runs: of one run, of a run with what follows it, and of all.
use Rattle.std.proofs.Common.{◌≡◌, ℕ, ◌+◌, ◌<◌, true, false, List, [], ◌∷◌, ◌++◌, length, Option, Some, None, refl, sym, ap, subst, ◌∙◌, arith, inl, inr}
use Rattle.std.specs.Prelude.{◌↔◌, if◌then◌else◌, is_some, map, slice_get, unwrap_or, Contains}
use Rattle.std.specs.List.{list_all, list_any}
use Rattle.std.specs.Option.{option_and_then}
use Rattle.std.proofs.lemmas.Bool.{cases_Bool, cond-true, cond-false, false≢true}
use Rattle.std.proofs.lemmas.List.{append-nil}
use Rattle.std.proofs.lemmas.Option.{none-some}
use Rattle.base.specs.Graphs.{IsGraph}
use Rattle.base.specs.Jobs.{compile_request}
use Rattle.base.specs.PresentGraph.{below}
use Rattle.base.proofs.Below.{below-zero}
use Rattle.base.specs.declared.graph.Entry.{Entry}
use Rattle.base.specs.declared.child.Request.{Request}
use Rattle.base.specs.declared.child.Exit.{Exit}
use Rattle.base.specs.declared.child.Event.{Event}
use Rattle.base_outcomes.specs.declared.outcome.Outcome.{Outcome}
use Rattle.base_outcomes.specs.declared.outcome.Outcome.TheVariants as outcome
use Rattle.base_outcomes.specs.declared.outcome.Refusal.TheVariants as refusal
use Rattle.outside.specs.Disks.{DiskState, Moments, added_since}
use Rattle.outside.specs.Commits.{last_state}
use Rattle.outside.proofs.MomentLaws.{all_last}
use Rattle.run_spec.specs.ChildJournal.{Work, progress_of}
use Rattle.run_spec.specs.CleanBuild.{RecordsClean, built_below, clean_build, clean_request, is_free}
use Rattle.run_spec.specs.Faithful.{IsFaithful, IsFaithfulDisk}
use Rattle.run_spec.specs.Histories.{Sources, Order, World, ProgramRun, IsIdleRun, IsLeft, IsMoment, IsReadable, RunStep, work_over}
use Rattle.run_spec.specs.Settled.{request_unless}
use Rattle.run_spec.specs.Statuses.{is_refused, refused_files, status_at, statuses_of}
use Rattle.run_spec.specs.declared.statuses.FileStatus.{FileStatus}
use Rattle.run_laws.proofs.CleanSettled.{request_clean, request_is_clean}
use Rattle.run_laws.proofs.Moments.{at_moment, on_left}
use Rattle.run_laws.proofs.RightRuns.{run_clean, run_faithful}
use Rattle.run_laws.proofs.SparedRuns.{nothing_taken}
use Rattle.report.specs.Outcomes.{build_outcome}
use Rattle.report.specs.Said.{run_said}
use Rattle.testbench_runs.specs.declared.ends.TestEnd.{TestEnd}
use Rattle.vhdl_spec.specs.Scans.{Finding}
use Rattle.run_build.specs.Ran.{is_made}
use Rattle.run_tests.specs.Histories.{HistoryStep, Edited, Ran, Stopped, IsHistory, IsRun, TestsStep, disk_after, sources_after}
use Rattle.run_tests.proofs.HistorySteps.{joined}
use Rattle.run_tests.proofs.TestedRights.{tested_right}
use Rattle.vunit_top.specs.Store.{records_in_image}
use Rattle.vunit_top.specs.Reading.{Reading, Testing, Bad, Child, Stops, Over, Lists, ListsTests, Exports, Builds, Runs, Generates, reading}
use Rattle.vunit_top.specs.Runs.{RunsAs, world_of}
use Rattle.vunit_top.specs.Said.{IsSaid, no_order, order_in, order_of}
use Rattle.vunit_top.proofs.TestTruths.{made_refuses_none}
use Rattle.headline.specs.Promise.{Differs, KeepsPromise, AllKeepPromise, LeavesDisk, ProjectState, RanAll, runs_in, work_in}

-- ## What a run started

module _ (compiler : Request → Exit) (work : Work) (graph : IsGraph work.graph) (records : RecordsClean compiler work.graph work.current) where
  abbrev asks : ℕ → Option Request
  asks position = request_unless compiler work.graph work.current position

  free_of : (entry : Entry) (request : Request) → (if is_free (clean_build compiler work.graph) entry then Some (compile_request entry (built_below (clean_build compiler work.graph) entry)) else None) ≡ Some request →
      is_free (clean_build compiler work.graph) entry ≡ true
  free_of entry request is =
      elim (cases_Bool (is_free (clean_build compiler work.graph) entry)) [
        | inl free ↦ free
        | inr other ↦ absurd (none-some request (sym (cond-false (is_free (clean_build compiler work.graph) entry) (Some (compile_request entry (built_below (clean_build compiler work.graph) entry))) None other) ∙ is))
      ]

  stale_of : (kept : Option (List ℕ)) (asked : Option Request) (request : Request) → (if is_some kept then None else asked) ≡ Some request → kept ≡ None
  stale_of None asked request is = refl
  stale_of (Some artefact) asked request is = absurd (none-some request is)

  -- a file that something is asked of differs from its record
  differs_from : (position : ℕ) (request : Request) (found : Option Entry) → slice_get work.graph position ≡ found → asks position ≡ Some request → Differs compiler work position
  differs_from position request None none is =
      absurd (none-some request (sym (ap (option_and_then (λ entry. if is_free (clean_build compiler work.graph) entry then Some (compile_request entry (built_below (clean_build compiler work.graph) entry)) else None)) none)
      ∙ request_clean compiler work.graph graph work.current records position request is))
  differs_from position request (Some entry) found is = record {
    entry = entry;
    is_entry = found;
    is_free = free_of entry request
        (sym (ap (option_and_then (λ e. if is_free (clean_build compiler work.graph) e then Some (compile_request e (built_below (clean_build compiler work.graph) e)) else None)) found) ∙ request_clean compiler work.graph graph work.current records position request is);
    stale = stale_of (work.current position (built_below (clean_build compiler work.graph) entry)) (clean_request compiler work.graph position) request (sym (request_is_clean compiler work.graph graph work.current records position entry found) ∙ is);
  }

  asked_of : (position : ℕ) → Differs compiler work position → (request : Request) × (asks position ≡ Some request)
  asked_of position it = (
    compile_request it.entry (built_below (clean_build compiler work.graph) it.entry),
    request_is_clean compiler work.graph graph work.current records position it.entry it.is_entry
        ∙ ap (λ (o : Option (List ℕ)). if is_some o then None else clean_request compiler work.graph position) it.stale
        ∙ ap (option_and_then (λ e. if is_free (clean_build compiler work.graph) e then Some (compile_request e (built_below (clean_build compiler work.graph) e)) else None)) it.is_entry
        ∙ cond-true (is_free (clean_build compiler work.graph) it.entry) (Some (compile_request it.entry (built_below (clean_build compiler work.graph) it.entry))) None it.is_free,
  )

  -- the settled build has requests for exactly the files that differ from their record
  pub exactly : (P : Type 0) (position : ℕ) → P ↔ ((request : Request) × (asks position ≡ Some request)) → P ↔ Differs compiler work position
  exactly P position is = (λ p. differs_from position (is.0 p).0 (slice_get work.graph position) refl (is.0 p).1, λ it. is.1 (asked_of position it))

-- ## What a run answered

-- where some file was refused not all are made, so no tests were run
pub untested_where_refused : (statuses : List FileStatus) (tests : TestEnd) → list_any is_refused statuses ≡ true → (if list_all is_made statuses then Some tests else None) ≡ None
untested_where_refused statuses tests refused =
    elim (cases_Bool (list_all is_made statuses)) [
      | inl made ↦ absurd (false≢true (sym (made_refuses_none statuses made) ∙ refused))
      | inr other ↦ cond-false (list_all is_made statuses) (Some tests) None other
    ]

-- of no file none was refused
none_of_none : (work : Work) (events : List Event) → work.graph ≡ [] → list_any is_refused (statuses_of work events) ≡ false
none_of_none work events empty =
    let status : ℕ → FileStatus = status_at work (progress_of work events).ends in
    ap (λ (graph : List Entry). list_any is_refused (map status (below (length graph)))) empty ∙ ap (λ (positions : List ℕ). list_any is_refused (map status positions)) below-zero

module _ (result : Outcome) (events : List Event) (first : DiskState) where
  abbrev statuses_in : Order → List FileStatus
  statuses_in order = statuses_of (work_over records_in_image order first) events

  abbrev Refuses : Order → Type 0
  Refuses order = result ≡ outcome.Refused (refusal.Compiler (refused_files order.graph (statuses_in order)))

  refused_by : (order : Order) → result ≡ build_outcome order.graph (statuses_in order) → list_any is_refused (statuses_in order) ≡ true → Refuses order
  refused_by order is refused = is ∙ cond-true (list_any is_refused (statuses_in order)) (outcome.Refused (refusal.Compiler (refused_files order.graph (statuses_in order)))) outcome.Done refused

  none_refused_in : list_any is_refused (statuses_in no_order) ≡ true → ⊥
  none_refused_in refused = false≢true (sym (none_of_none (work_over records_in_image no_order first) events refl) ∙ refused)

  -- the answer names the files that the compiler refused
  pub named_by : (r : Reading) →
      ((order : Order) (warnings : List ℕ) → r ≡ Builds order warnings → IsSaid result → result ≡ build_outcome order.graph (statuses_in order)) →
      ((asked : Testing) → r ≡ Runs asked → IsSaid result →
      (end : TestEnd) × (result ≡ (run_said asked.warnings asked.order.graph (statuses_in asked.order) asked.plan.runs asked.words (if list_all is_made (statuses_in asked.order) then Some end else None)).outcome)) →
      IsSaid result → list_any is_refused (statuses_in (order_in r)) ≡ true → Refuses (order_in r)
  named_by Bad builds runs said refused = absurd (none_refused_in refused)
  named_by (Child tool) builds runs said refused = absurd (none_refused_in refused)
  named_by (Stops reason) builds runs said refused = absurd (none_refused_in refused)
  named_by (Over limit number) builds runs said refused = absurd (none_refused_in refused)
  named_by (Lists graph) builds runs said refused = absurd (none_refused_in refused)
  named_by (ListsTests tests) builds runs said refused = absurd (none_refused_in refused)
  named_by (Exports path text) builds runs said refused = absurd (none_refused_in refused)
  named_by (Builds order warnings) builds runs said refused = refused_by order (builds order warnings refl said) refused
  named_by (Runs asked) builds runs said refused =
      let is = runs asked refl said in
      refused_by asked.order
      (is.1 ∙ ap (λ (o : Option TestEnd). (run_said asked.warnings asked.order.graph (statuses_in asked.order) asked.plan.runs asked.words o).outcome) (untested_where_refused (statuses_in asked.order) is.0 refused)) refused
  named_by (Generates options) builds runs said refused = absurd (none_refused_in refused)

-- ## One run

module _ (scan : List ℕ → Finding) (compiler : Request → Exit) (sources : Sources) (run : ProgramRun) (first : DiskState) (readable : IsReadable first) where
  abbrev world : World
  world = world_of scan compiler

  abbrev r : Reading
  r = reading scan run.words sources

  abbrev work : Work
  work = work_in scan sources run first

  pub keeps : (last : DiskState) → RunsAs scan compiler r run first last → TestsStep records_in_image (world.reading run.words sources) (world.plan run.words sources) run.events run.tests first →
      (IsSaid run.outcome → list_any is_refused (statuses_of work run.events) ≡ true → run.outcome ≡ outcome.Refused (refusal.Compiler (refused_files work.graph (statuses_of work run.events)))) →
      IsFaithfulDisk compiler records_in_image first → KeepsPromise scan compiler sources run first
  keeps last did tests named faithful = record {
    right = tested_right world sources run first readable faithful (did.step, tests);
    started = λ ended none position.
        exactly compiler work (did.graph ended) (run_clean world (order_in r) first (did.graph ended) readable faithful)
        (Contains (progress_of work run.events).taken position) position ((did.exact ended none).started position);
    made = did.made;
    named = named;
  }

  -- a run that builds nothing and tests nothing
  module _ (none : order_of r ≡ None) (idle : IsIdleRun run) (untested : run.tests ≡ []) where
    pub idle_is_run : IsRun world sources run first
    idle_is_run = (
      subst (λ (o : Option Order). RunStep world o run first) (sym none) idle,
      subst (λ (o : Option Order). TestsStep records_in_image o (world.plan run.words sources) run.events run.tests first) (sym none) untested,
    )

    empty : work.graph ≡ []
    empty = ap (λ (o : Option Order). (unwrap_or o no_order).graph) none

    pub idle_keeps : IsFaithfulDisk compiler records_in_image first → KeepsPromise scan compiler sources run first
    idle_keeps faithful = record {
      right = tested_right world sources run first readable faithful idle_is_run;
      started = λ ended halts position. (
        λ contains. absurd (nothing_taken work position (subst (λ (events : List Event). Contains (progress_of work events).taken position) idle.events contains)),
        λ it. absurd (none-some it.entry (sym (ap (λ (g : List Entry). slice_get g position) empty) ∙ it.is_entry)),
      );
      made = λ built position inside. let none_there : position < 0 = subst (λ (g : List Entry). position < length g) empty inside in absurd (omega (arith, none_there));
      named = λ said refused. absurd (false≢true (sym (none_of_none work run.events empty) ∙ refused));
    }

-- ## Steps after steps

module _ (scan : List ℕ → Finding) (compiler : Request → Exit) where
  abbrev w : World
  w = world_of scan compiler

  sources_joined : (steps more : List HistoryStep) (sources : Sources) → sources_after sources (steps ++ more) ≡ sources_after (sources_after sources steps) more
  unfolding sources_after
  sources_joined [] more sources = refl
  sources_joined (Edited new ∷ steps) more sources = sources_joined steps more new
  sources_joined (Ran run ∷ steps) more sources = sources_joined steps more sources
  sources_joined (Stopped run stop ∷ steps) more sources = sources_joined steps more sources

  runs_joined : (steps more : List HistoryStep) → runs_in (steps ++ more) ≡ runs_in steps + runs_in more
  unfolding runs_in
  runs_joined [] more = omega arith
  runs_joined (Edited new ∷ steps) more = runs_joined steps more
  runs_joined (Ran run ∷ steps) more = omega (arith, runs_joined steps more)
  runs_joined (Stopped run stop ∷ steps) more = omega (arith, runs_joined steps more)

  disk_joined : (steps more : List HistoryStep) (disk : DiskState) → disk_after disk (steps ++ more) ≡ disk_after (disk_after disk steps) more
  unfolding disk_after
  disk_joined [] more disk = refl
  disk_joined (Edited new ∷ steps) more disk = disk_joined steps more disk
  disk_joined (Ran run ∷ steps) more disk = disk_joined steps more (last_state disk run.later)
  disk_joined (Stopped run stop ∷ steps) more disk = disk_joined steps more stop.disk

  all_keep_joined : (more steps : List HistoryStep) (sources : Sources) (disk : DiskState) → AllKeepPromise scan compiler sources disk steps →
      (IsFaithfulDisk compiler records_in_image (disk_after disk steps) → AllKeepPromise scan compiler (sources_after sources steps) (disk_after disk steps) more) → AllKeepPromise scan compiler sources disk (steps ++ more)
  unfolding AllKeepPromise sources_after disk_after
  all_keep_joined more [] sources disk keep later = later keep
  all_keep_joined more (Edited new ∷ steps) sources disk keep later = all_keep_joined more steps new disk keep later
  all_keep_joined more (Ran run ∷ steps) sources disk keep later = (keep.0, all_keep_joined more steps sources (last_state disk run.later) keep.1 later)
  all_keep_joined more (Stopped run stop ∷ steps) sources disk keep later = (keep.0, keep.1, all_keep_joined more steps sources stop.disk keep.2 later)

  -- nothing happened
  pub ran_none : (now : ProjectState) → RanAll scan compiler 0 now now
  unfolding IsHistory sources_after disk_after AllKeepPromise runs_in
  ran_none now = record { steps = []; count = refl; history = tt; sources = refl; disk = refl; promise = λ faithful. faithful }

  -- what happened after what had happened
  pub ran_more : (runs more : ℕ) (old middle new : ProjectState) → RanAll scan compiler runs old middle → RanAll scan compiler more middle new → RanAll scan compiler (runs + more) old new
  ran_more runs more old middle new one two = record {
    steps = one.steps ++ two.steps;
    count = runs_joined one.steps two.steps ∙ ap (λ (n : ℕ). n + runs_in two.steps) one.count ∙ ap (λ (n : ℕ). runs + n) two.count;
    history = (joined w two.steps one.steps old.sources old.disk).1
        (one.history, subst (λ (d : DiskState). IsHistory w (sources_after old.sources one.steps) d two.steps) (sym one.disk) (subst (λ (s : Sources). IsHistory w s middle.disk two.steps) (sym one.sources) two.history));
    sources = sources_joined one.steps two.steps old.sources ∙ ap (λ (s : Sources). sources_after s two.steps) one.sources ∙ two.sources;
    disk = disk_joined one.steps two.steps old.disk ∙ ap (λ (d : DiskState). disk_after d two.steps) one.disk ∙ two.disk;
    promise = λ faithful.
        all_keep_joined two.steps one.steps old.sources old.disk (one.promise faithful)
        (λ there.
        subst (λ (d : DiskState). AllKeepPromise scan compiler (sources_after old.sources one.steps) d two.steps) (sym one.disk)
        (subst (λ (s : Sources). AllKeepPromise scan compiler s middle.disk two.steps) (sym one.sources) (two.promise (subst (IsFaithfulDisk compiler records_in_image) one.disk there))));
  }

  -- ## A run, and what follows it

  module _ (sources : Sources) (run : ProgramRun) (first : DiskState) (readable : IsReadable first) (is_run : IsRun w sources run first) (keep : IsFaithfulDisk compiler records_in_image first → KeepsPromise scan compiler sources run first) where
    -- the sources are edited
    pub ran_edited : (left : DiskState) → last_state first run.later ≡ left → (new : Sources) → RanAll scan compiler 1 (record { sources = sources; disk = first }) (record { sources = new; disk = left })
    unfolding IsHistory sources_after disk_after AllKeepPromise runs_in
    ran_edited left ends new = record {
      steps = Ran run ∷ Edited new ∷ [];
      count = refl;
      history = (is_run, tt);
      sources = refl;
      disk = ends;
      promise = λ faithful. (
        keep faithful,
        all_last (λ disk. IsFaithfulDisk compiler records_in_image disk) first run.later (run_faithful w (order_of (reading scan run.words sources)) run first readable faithful is_run.0),
      );
    }

    -- the run is stopped, and the sources are edited
    pub stopped_edited : (moment left : DiskState) → IsMoment moment first run.later → IsLeft moment left → (new : Sources) → RanAll scan compiler 1 (record { sources = sources; disk = first }) (record { sources = new; disk = left })
    unfolding IsHistory sources_after disk_after AllKeepPromise runs_in
    stopped_edited moment left is_moment is_left new = record {
      steps = Stopped run (record { events = run.events; tests = run.tests; moment = moment; disk = left }) ∷ Edited new ∷ [];
      count = refl;
      history = (
        is_run,
        record { rest = []; prefix = sym (append-nil run.events); more = []; tested = sym (append-nil run.tests); parted = λ some. refl; moment = is_moment; left = is_left },
        tt,
      );
      sources = refl;
      disk = refl;
      promise = λ faithful. (
        keep faithful,
        (keep faithful).right.1,
        on_left (IsFaithful compiler records_in_image) moment left is_left
            (at_moment (λ disk. IsFaithfulDisk compiler records_in_image disk) moment first run.later is_moment (run_faithful w (order_of (reading scan run.words sources)) run first readable faithful is_run.0)),
      );
    }

    -- either case, by what the run left
    pub ran_and_left : (begun middle : Moments) → first ≡ begun.now → run.later ≡ added_since begun middle → last_state first run.later ≡ middle.now → (left : DiskState) → LeavesDisk begun middle left → (new : Sources) →
        RanAll scan compiler 1 (record { sources = sources; disk = first }) (record { sources = new; disk = left })
    ran_and_left begun middle from later ends left (inl same) new = ran_edited left (ends ∙ sym same) new
    ran_and_left begun middle from later ends left (inr (moment, is, stop)) new =
        stopped_edited moment left (subst (IsMoment moment first) (sym later) (subst (λ (d : DiskState). IsMoment moment d (added_since begun middle)) (sym from) is)) stop new
