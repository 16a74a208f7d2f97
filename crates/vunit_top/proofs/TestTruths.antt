-- What a run with tests did and said, from its build and its tests.
use Rattle.std.proofs.Common.{◌≡◌, ℕ, Bool, true, false, List, [], ◌∷◌, ◌++◌, Option, Some, None, Result, Ok, Err, refl, sym, ap, subst, ◌∙◌, arith}
use Rattle.std.specs.Prelude.{◌<◌, if◌then◌else◌, IfOk, OnOk, is_some, length, map, slice_get}
use Rattle.std.specs.List.{list_all, list_any}
use Rattle.std.proofs.lemmas.Bool.{cond-true, cond-false, false≢true}
use Rattle.std.proofs.lemmas.Option.{slice_get-get_or, slice_get-map}
use Rattle.std.specs.Option.{option_map}
use Rattle.base.specs.declared.child.MaybeText.{MaybeText}
use Rattle.base.specs.declared.child.MaybeText.TheVariants.{Given, Nothing}
use Rattle.base.specs.declared.graph.Entry.{Entry}
use Rattle.base.specs.PresentGraph.{below}
use Rattle.base.proofs.Below.{length-below, get_or-below}
use Rattle.base.specs.declared.child.Request.{Request}
use Rattle.base.specs.declared.child.Exit.{Exit}
use Rattle.base.specs.declared.child.Event.{Event}
use Rattle.run_spec.specs.declared.statuses.FileStatus.{FileStatus}
use Rattle.run_spec.specs.declared.statuses.FileStatus.TheVariants as status
use Rattle.base_outcomes.specs.declared.outcome.Outcome.{Outcome}
use Rattle.base_outcomes.specs.declared.outcome.Outcome.TheVariants as outcome
use Rattle.outside.specs.Disks.{Moments, AreSound, Rests, added_since, reads_of}
use Rattle.run_spec.specs.ChildJournal.{Work, Answered, artefact_after, progress_of, since}
use Rattle.run_spec.specs.JournalParts.{IsCompilerOf, compile_part, test_part}
use Rattle.run_spec.specs.Commits.{commits}
use Rattle.run_spec.specs.Faithful.{IsFaithfulDisk}
use Rattle.run_spec.specs.Statuses.{statuses_of, status_at, status_of, is_refused}
use Rattle.run_spec.proofs.Parts.{answered_by_compiler, build_parts}
use Rattle.run_spec.specs.Histories.{ProgramRun, work_over}
use Rattle.outside.specs.Disks.{DiskState}
use Rattle.outside.specs.FaultCounts.{BuildFaultCounts, NoBuildCountFell, RunFaultCounts}
use Rattle.run_spec.specs.Faults.{Explains}
use Rattle.run_build.specs.Orders.{IsDurablyRecorded}
use Rattle.run_build.specs.Ran.{is_made}
use Rattle.run_build.proofs.BorrowedFiles.{made_at}
use Rattle.run_spec.specs.declared.fault.RunFault.{RunFault}
use Rattle.run_spec.specs.declared.fault.RunFault.TheVariants as fault
use Rattle.vhdl_spec.specs.Scans.{Finding}
use Rattle.testbench_runs.specs.declared.runs.TestRun.{TestRun}
use Rattle.testbench_runs.specs.declared.ends.TestEnd.{TestEnd}
use Rattle.testbench_runs.specs.declared.ends.RunEnd.{RunEnd}
use Rattle.run_spec.specs.TestJournal.{TestSetting, IsWholeTests}
use Rattle.run_tests.specs.Results.{test_ends}
use Rattle.run_build.specs.Building.{RestsOver}
use Rattle.run_tests.specs.declared.build_and_test.Tested.{Tested}
use Rattle.run_tests.specs.Tested.{SaysTests, TestsOver, setting_after}
use Rattle.run_tests.specs.Histories.{HasTested}
use Rattle.run_tests.specs.Rights.{AreRightTests}
use Rattle.run_tests.proofs.TestedRights.{tests_right}
use Rattle.run_tests.proofs.TestsEnded.{ends_steady}
use Rattle.report.specs.declared.said.RunSaid.{RunSaid}
use Rattle.report.specs.declared.said.TestWords.{TestWords}
use Rattle.report.specs.Said.{run_said}
use Rattle.store.specs.Stored.{IsResting}
use Rattle.vunit_top.specs.Store.{records_in_image}
use Rattle.vunit_top.specs.Acts.{Object, Disk, Children, Out, Reports, Seen, RunsTests, statuses_between, setting_between, tests_since, said_between}
use Rattle.vunit_top.specs.Ends.{WritesReport}
use Rattle.vunit_top.specs.Reading.{Testing, Builds, Runs}
use Rattle.vunit_top.specs.Runs.{RunsAs, RunsBy, WritesNothing, run_of}
use Rattle.vunit_top.specs.Said.{Causes, IsAccounted, IsSaid, HasEnded, HasBuilt, SaysRun, Said, fault_outcome, plain_run}
use Rattle.vunit_top.proofs.RunTruths.{built_refuses_none, built_said, readable_now, runs_over, writes_nothing}

-- files that are made aren't refused
pub made_refuses_none : (statuses : List FileStatus) → list_all is_made statuses ≡ true → list_any is_refused statuses ≡ false
made_refuses_none [] made = refl
made_refuses_none (status.Fresh ∷ statuses) made = made_refuses_none statuses made
made_refuses_none (status.Compiled ∷ statuses) made = made_refuses_none statuses made
made_refuses_none (status.Refused code output ∷ statuses) made = absurd (false≢true made)
made_refuses_none (status.Skipped ∷ statuses) made = absurd (false≢true made)
made_refuses_none (status.Left ∷ statuses) made = absurd (false≢true made)

-- a file that is made has an artefact
made_has : (keep_going : Bool) (exit : Option Exit) (artefact : Option (List ℕ)) → is_made (status_of keep_going exit artefact) ≡ true → is_some artefact ≡ true
made_has keep_going exit (Some artefact) made = refl
made_has keep_going (Some exit) None made = absurd (false≢true made)
made_has true None None made = absurd (false≢true made)
made_has false None None made = absurd (false≢true made)

-- the status of a file among those of all files
status_in : (status : ℕ → FileStatus) (count position : ℕ) → position < count → slice_get (map status (below count)) position ≡ Some (status position)
status_in status count position inside =
    slice_get-map status (below count) position
    ∙ ap (option_map status) (slice_get-get_or (below count) position 0 (subst (λ (n : ℕ). position < n) (sym (length-below count)) inside) ∙ ap (λ (p : ℕ). Some p) (get_or-below count position 0 inside))

-- where all files are made, each has an artefact
all_have : (work : Work) (events : List Event) → list_all is_made (statuses_of work events) ≡ true → (position : ℕ) → position < length work.graph → is_some (artefact_after work events position) ≡ true
all_have work events made position inside =
    let ends = (progress_of work events).ends in
    made_has work.keep_going _ (artefact_after work events position)
    (made_at (statuses_of work events) position (status_at work ends position) made (status_in (status_at work ends) (length work.graph) position inside))

-- the answer has the test ends of the events if all files are made, and none otherwise
ends_said : (setting : TestSetting) (made : Bool) (tests : Option TestEnd) (events : List Event) → SaysTests setting made tests events → tests ≡ (if made then Some (record { runs = test_ends setting events }) else None)
ends_said setting made None events says = sym (cond-false made (Some (record { runs = test_ends setting events })) None says)
ends_said setting made (Some end) events says = ap (λ (runs : List RunEnd). Some (record { runs = runs })) says.2 ∙ sym (cond-true made (Some (record { runs = test_ends setting events })) None says.0)

whole_if : (setting : TestSetting) (made : Bool) (tests : Option TestEnd) (events : List Event) → SaysTests setting made tests events → made ≡ true → IsWholeTests setting events
whole_if setting made None events says is = absurd (false≢true (sym says ∙ is))
whole_if setting made (Some end) events says is = says.1

-- a run that is done, or whose tests failed, has no refused file
none_refused : (setting : TestSetting) (warnings : List ℕ) (graph : List Entry) (statuses : List FileStatus) (runs : List TestRun) (words : TestWords) (tests : Option TestEnd) (events : List Event) (said : Outcome) → SaysTests setting (list_all is_made statuses) tests events → HasBuilt said →
    said ≡ (run_said warnings graph statuses runs words tests).outcome → list_any is_refused statuses ≡ false
none_refused setting warnings graph statuses runs words None events said says built is = built_refuses_none graph statuses said built is
none_refused setting warnings graph statuses runs words (Some end) events said says built is = made_refuses_none statuses says.0

-- ## After a fault

pub never_ended : (why : RunFault) → HasEnded (fault_outcome why) → ⊥
never_ended fault.NoMemory is = is
never_ended fault.StartFailed is = is
never_ended fault.ChildLost is = is
never_ended fault.DiskFailed is = is

pub never_said : (why : RunFault) → IsSaid (fault_outcome why) → ⊥
never_said fault.NoMemory is = is
never_said fault.StartFailed is = is
never_said fault.ChildLost is = is
never_said fault.DiskFailed is = is

never_built : (why : RunFault) → HasBuilt (fault_outcome why) → ⊥
never_built why is = never_said why (built_said (fault_outcome why) is)

pub nothing_put : (why : RunFault) (said : Said) (put : List ℕ) → SaysRun (fault_outcome why) said put put
nothing_put fault.NoMemory said put = refl
nothing_put fault.StartFailed said put = refl
nothing_put fault.ChildLost said put = refl
nothing_put fault.DiskFailed said put = refl

pub nothing_written : (why : RunFault) (path : MaybeText) (said : Option (List ℕ)) (report : List ℕ → Option (List ℕ)) → WritesReport path said (fault_outcome why) report report
nothing_written why Nothing said report = refl
nothing_written why (Given path) None report = refl
nothing_written fault.NoMemory (Given path) (Some text) report = refl
nothing_written fault.StartFailed (Given path) (Some text) report = refl
nothing_written fault.ChildLost (Given path) (Some text) report = refl
nothing_written fault.DiskFailed (Given path) (Some text) report = refl

-- the counts of a build and of its tests say why
pub fault_counted : (why : RunFault) (first now : BuildFaultCounts) (others : RunFaultCounts) → Explains (Some why) first now → NoBuildCountFell first now →
    IsAccounted (fault_outcome why) (record others { build = first }) (record others { build = now })
fault_counted why first now others explains fell = record { cause = cause why explains; stand = record { tree = omega arith; build = fell; out = omega arith; report = omega arith; input = omega arith } } where
  cause : (why : RunFault) → Explains (Some why) first now → Causes (fault_outcome why) (record others { build = first }) (record others { build = now })
  cause fault.NoMemory is = tt
  cause fault.StartFailed is = is
  cause fault.ChildLost is = is
  cause fault.DiskFailed is = is

-- and without a fault, what accounts for the later outcome accounts for it from the first counts on
pub ended_counted : (first now : BuildFaultCounts) (old new : RunFaultCounts) (said : Outcome) → Explains None first now → IsAccounted said (record old { build = now }) (record new { build = now }) →
    IsAccounted said (record old { build = first }) (record new { build = now })
ended_counted first now old new said same accounted =
    subst (λ (build : BuildFaultCounts). IsAccounted said (record old { build = build }) (record new { build = now })) same accounted

-- ## The run

-- a run with tests builds as one without
as_run : (scan : List ℕ → Finding) (compiler : Request → Exit) (asked : Testing) (run : ProgramRun) (first last : DiskState) → RunsAs scan compiler (Builds asked.order asked.warnings) run first last → RunsAs scan compiler (Runs asked) run first last
as_run scan compiler asked run first last did = record {
  step = did.step;
  ends = did.ends;
  graph = did.graph;
  whole = did.whole;
  recorded = did.recorded;
  emptied = did.emptied;
  rests = did.rests;
  right = did.right;
  exact = did.exact;
  made = did.made;
}

-- the statuses that are said are those of what the compilers did
has_status : (answer : Request → Exit) (asked : Testing) (failed : Bool) (old new : Moments) (events : List Event) (tested : Tested) (over : TestsOver records_in_image answer asked.order asked.plan (Ok tested) failed old new events) →
    tested.statuses ≡ statuses_of (work_over records_in_image asked.order old.now) over.compiled
has_status answer asked failed old new events tested over =
    subst (λ (r : Result (List FileStatus) RunFault). IfOk r (λ statuses. statuses ≡ statuses_of (work_over records_in_image asked.order old.now) over.compiled)) over.gives.0 over.builds.statuses

module _ (scan : List ℕ → Finding) (answer : Request → Exit) (asked : Testing) (failed : Bool) (old new : Moments) (sound : AreSound old) (events : List Event) where
  abbrev work : Work
  work = work_over records_in_image asked.order old.now

  abbrev Over : Result Tested RunFault → Type 0
  Over result = TestsOver records_in_image answer asked.order asked.plan result failed old new events

  -- it writes nothing over a disk at rest if it commits nothing
  abbrev Quiet : Result Tested RunFault → Type 0
  Quiet result = RestsOver records_in_image (λ image. IsResting image) asked.order result old new (compile_part events)

  ran_over : (result : Result Tested RunFault) (over : Over result) (words : List (List ℕ)) (said : Outcome) → (over.build ≡ Err fault.NoMemory → said ≡ outcome.NoMemory) → (HasEnded said → (statuses : List FileStatus) × (over.build ≡ Ok statuses)) →
      (HasBuilt said → list_any is_refused (statuses_of work over.compiled) ≡ false) → Quiet result → (HasEnded said → (tested : Tested) × (result ≡ Ok tested)) → RunsBy scan answer (Runs asked) (run_of words said failed events (added_since old new)) old new
  ran_over result over words said memory ends none rests answers =
      let built : RunsBy scan answer (Builds asked.order asked.warnings) (record { words = words; outcome = said; disk_failed = failed; events = compile_part over.compiled; tests = test_part events; later = added_since old new }) old new =
      runs_over scan answer asked.order asked.warnings over.build failed old new sound over.compiled over.builds (test_part events) words said memory ends none
      (λ clean resting nothing. writes_nothing result old new (HasEnded said) answers (rests clean resting (ap (commits work) over.compilers ∙ nothing))) in
      record {
        follows = built.follows;
        by = λ compiler is_compiler.
            as_run scan compiler asked (run_of words said failed events (added_since old new)) old.now new.now
            (subst (λ (l : List Event). RunsAs scan compiler (Builds asked.order asked.warnings) (record { words = words; outcome = said; disk_failed = failed; events = l; tests = test_part events; later = added_since old new }) old.now new.now)
            ((build_parts work over.compiled over.builds.lawful).0 ∙ sym over.compilers) (built.by compiler is_compiler));
      }

  pub ran_ended : (tested : Tested) → Over (Ok tested) → (words : List (List ℕ)) (said : Outcome) → (IsSaid said → said ≡ (run_said asked.warnings asked.order.graph tested.statuses asked.plan.runs asked.words tested.tests).outcome) → Quiet (Ok tested) →
      RunsBy scan answer (Runs asked) (run_of words said failed events (added_since old new)) old new
  ran_ended tested over words said answered rests =
      ran_over (Ok tested) over words said (λ is. let nothing : Ok tested.statuses ≡ Err fault.NoMemory = sym over.gives.0 ∙ is in absurd cc) (λ is. (tested.statuses, over.gives.0))
      (λ is. subst (λ (m : List FileStatus). list_any is_refused m ≡ false) (has_status answer asked failed old new events tested over)
      (none_refused (setting_after asked.order asked.plan work over.compiled) asked.warnings asked.order.graph tested.statuses asked.plan.runs asked.words tested.tests over.tests said over.gives.1 is (answered (built_said said is)))) rests (λ is. (tested, refl))

  pub ran_faulted : (why : RunFault) → Over (Err why) → (words : List (List ℕ)) → Quiet (Err why) → RunsBy scan answer (Runs asked) (run_of words (fault_outcome why) failed events (added_since old new)) old new
  ran_faulted why over words rests =
      ran_over (Err why) over words (fault_outcome why) (λ is. ap fault_outcome (same_fault why fault.NoMemory (over.stops fault.NoMemory is).0)) (λ is. absurd (never_ended why is)) (λ is. absurd (never_built why is)) rests (λ is. absurd (never_ended why is)) where
        same_fault : (why other : RunFault) → ◌≡◌ {A = Result Tested RunFault} (Err why) (Err other) → why ≡ other
        same_fault why other is = cc

-- ## The tests

module _ (tells : Object → Type 0) (answer : Request → Exit) (asked : Testing) (failed : Bool) (before after : Seen) (sound : AreSound before.moments) where
  abbrev events : List Event
  events = since before.journal after.journal

  abbrev built : Work
  built = work_over records_in_image asked.order before.moments.now

  abbrev Tests : Result Tested RunFault → Type 0
  Tests result = TestsOver records_in_image answer asked.order asked.plan result failed before.moments after.moments events

  module _ (result : Result Tested RunFault) (over : Tests result) where
    moved : (P : List Event → List Event → Type 0) → P over.compiled over.tests → P (compile_part events) (test_part events)
    moved P p = subst (P (compile_part events)) (sym over.simulators) (subst (λ (l : List Event). P l over.tests) (sym over.compilers) p)

    parts : events ≡ compile_part events ++ test_part events
    parts = moved (λ c t. events ≡ c ++ t) over.parted

    here : HasTested asked.order asked.plan built over.compiled over.tests
    here = record { graph = λ some. over.builds.graph_form; made = over.made; lawful = over.lawful }

    has_tested : HasTested asked.order asked.plan built (compile_part events) (test_part events)
    has_tested = moved (λ c t. HasTested asked.order asked.plan built c t) here

    answers_are : Answered answer (test_part events)
    answers_are = moved (λ c t. Answered answer t) over.answered

    -- tests are started only after a build without a fault, by which each file that is made is recorded
    are_recorded : (test_part events ≡ [] → ⊥) → (position : ℕ) → position < length asked.order.graph → IsDurablyRecorded records_in_image after.moments.now asked.order.graph position
    are_recorded some position inside = by_build over.build refl where
      started : over.tests ≡ [] → ⊥
      started none = some (over.simulators ∙ none)

      by_build : (build : Result (List FileStatus) RunFault) → over.build ≡ build → IsDurablyRecorded records_in_image after.moments.now asked.order.graph position
      by_build (Err why) is = absurd (started (over.stops why is).1)
      by_build (Ok statuses) is =
          (subst (λ (r : Result (List FileStatus) RunFault). OnOk r ((k : ℕ) → k < length asked.order.graph → is_some (artefact_after built over.compiled k) ≡ true → IsDurablyRecorded records_in_image after.moments.now asked.order.graph k)) is over.builds.recorded)
          position inside (all_have built over.compiled (over.made started) position inside)

    are_right : (compiler : Request → Exit) → IsCompilerOf compiler answer → IsFaithfulDisk compiler records_in_image before.moments.now → AreRightTests compiler asked.order asked.plan (test_part events)
    are_right compiler is_compiler faithful =
        moved (λ c t. AreRightTests compiler asked.order asked.plan t)
        (tests_right compiler records_in_image asked.order asked.plan before.moments.now over.compiled over.tests (readable_now before.moments sound) faithful over.builds.graph_form over.builds.lawful
        (answered_by_compiler compiler answer is_compiler built over.compiled over.builds.lawful over.builds.answered) here)

  module _ (tested : Tested) (over : Tests (Ok tested)) where
    same_statuses : tested.statuses ≡ statuses_between asked.order before after
    same_statuses = moved (Ok tested) over (λ c t. tested.statuses ≡ statuses_of built c) (has_status answer asked failed before.moments after.moments events tested over)

    same_tests : tested.tests ≡ (if list_all is_made tested.statuses then Some (record { runs = test_ends (setting_between asked before after) (tests_since before after) }) else None)
    same_tests =
        moved (Ok tested) over (λ c t. tested.tests ≡ (if list_all is_made tested.statuses then Some (record { runs = test_ends (setting_after asked.order asked.plan built c) t }) else None))
        (ends_said (setting_after asked.order asked.plan built over.compiled) (list_all is_made tested.statuses) tested.tests over.tests over.gives.1)

    same_said : run_said asked.warnings asked.order.graph tested.statuses asked.plan.runs asked.words tested.tests ≡ said_between asked before after
    same_said =
        ap (λ (m : List FileStatus). run_said asked.warnings asked.order.graph m asked.plan.runs asked.words tested.tests) same_statuses
        ∙ ap (run_said asked.warnings asked.order.graph (statuses_between asked.order before after) asked.plan.runs asked.words)
        (same_tests ∙ ap (λ (m : List FileStatus). if list_all is_made m then Some (record { runs = test_ends (setting_between asked before after) (tests_since before after) }) else None) same_statuses)

    are_whole : list_all is_made (statuses_between asked.order before after) ≡ true → IsWholeTests (setting_between asked before after) (tests_since before after)
    are_whole made =
        moved (Ok tested) over (λ c t. IsWholeTests (setting_after asked.order asked.plan built c) t)
        (whole_if (setting_after asked.order asked.plan built over.compiled) (list_all is_made tested.statuses) tested.tests over.tests over.gives.1 (ap (list_all is_made) same_statuses ∙ made))

  pub tests_ended : (tested : Tested) → (tells Disk → tells Children → Tests (Ok tested)) → (result : Outcome) →
      (tells Out → SaysRun result (plain_run (run_said asked.warnings asked.order.graph tested.statuses asked.plan.runs asked.words tested.tests)) before.put after.put) →
      (IsSaid result → result ≡ (run_said asked.warnings asked.order.graph tested.statuses asked.plan.runs asked.words tested.tests).outcome) →
      (tells Reports → WritesReport asked.report (run_said asked.warnings asked.order.graph tested.statuses asked.plan.runs asked.words tested.tests).report result before.report after.report) →
      RunsTests tells answer asked result before after
  tests_ended tested over result says answers writes = record {
    parted = λ d c. parts (Ok tested) (over d c);
    tested = λ d c. has_tested (Ok tested) (over d c);
    answered = λ d c. answers_are (Ok tested) (over d c);
    recorded = λ d c. are_recorded (Ok tested) (over d c);
    right = λ d c. are_right (Ok tested) (over d c);
    whole = λ d c ended. are_whole tested (over d c);
    steady = λ d c ended going made. ends_steady answer (setting_between asked before after) going (tests_since before after) (are_whole tested (over d c) made) (answers_are (Ok tested) (over d c));
    says = λ d c o. subst (λ (s : RunSaid). SaysRun result (plain_run s) before.put after.put) (same_said tested (over d c)) (says o);
    answers = λ d c. subst (λ (s : RunSaid). IsSaid result → result ≡ s.outcome) (same_said tested (over d c)) answers;
    writes = λ d c w. subst (λ (s : RunSaid). WritesReport asked.report s.report result before.report after.report) (same_said tested (over d c)) (writes w);
  }

  pub tests_faulted : (why : RunFault) → (tells Disk → tells Children → Tests (Err why)) → (result : Outcome) → result ≡ fault_outcome why → after.put ≡ before.put → after.report ≡ before.report → RunsTests tells answer asked result before after
  tests_faulted why over result is put report = record {
    parted = λ d c. parts (Err why) (over d c);
    tested = λ d c. has_tested (Err why) (over d c);
    answered = λ d c. answers_are (Err why) (over d c);
    recorded = λ d c. are_recorded (Err why) (over d c);
    right = λ d c. are_right (Err why) (over d c);
    whole = λ d c ended. absurd (never_ended why (subst HasEnded is ended));
    steady = λ d c ended. absurd (never_ended why (subst HasEnded is ended));
    says = λ d c o. rw (is, put) (nothing_put why (plain_run (said_between asked before after)) before.put);
    answers = λ d c said. absurd (never_said why (subst IsSaid is said));
    writes = λ d c w. rw (is, report) (nothing_written why asked.report (said_between asked before after).report before.report);
  }
