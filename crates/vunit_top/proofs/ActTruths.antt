-- What a run did and said, from its parts.
use Rattle.std.proofs.Common.{◌≡◌, ◌≤◌, ◌+◌, ◌-◌, ◌^◌, min, ℕ, Bool, false, List, [], ◌++◌, Option, Some, None, Result, refl, sym, ap, subst, ◌∙◌, arith, inl, inr}
use Rattle.std.specs.Prelude.{◌⊎◌, IfSome}
use Rattle.std.proofs.lemmas.Option.{none-some}
use Rattle.base.specs.declared.child.Request.{Request}
use Rattle.base.specs.declared.child.Exit.{Exit}
use Rattle.base.specs.declared.child.Event.{Event}
use Rattle.base.specs.declared.child.MaybeText.TheVariants.{Given, Nothing}
use Rattle.base_outcomes.specs.declared.outcome.Outcome.{Outcome}
use Rattle.base_outcomes.specs.declared.outcome.Outcome.TheVariants as outcome
use Rattle.base_outcomes.specs.declared.outcome.OutsideObject.TheVariants as which
use Rattle.outside.specs.Disks.{Moments, AreSound}
use Rattle.outside.specs.FaultCounts.{RunFaultCounts}
use Rattle.run_spec.specs.ChildJournal.{Answered, EachAfter, since}
use Rattle.run_spec.specs.JournalParts.{compile_part, test_part, is_given}
use Rattle.run_spec.specs.Histories.{Order, work_over}
use Rattle.run_spec.specs.declared.fault.RunFault.TheVariants as fault
use Rattle.run_build.proofs.OverStore.{no_test_since, since_itself}
use Rattle.run_spec.specs.TestJournal.{LawfulTests}
use Rattle.run_tests.specs.Tested.{setting_after}
use Rattle.run_tests.specs.Histories.{HasTested}
use Rattle.run_tests.specs.Rights.{AreRightTests, clean_setting}
use Rattle.run_tests.proofs.TestedRights.{lawful_right, no_tests}
use Rattle.vunit_top.specs.Store.{records_in_image}
use Rattle.report.specs.Outcomes.{build_outcome}
use Rattle.vhdl_spec.specs.Scans.{Finding}
use Rattle.project_reading.specs.Reading.{SourceReading}
use Rattle.project_reading.specs.declared.stops.ReadStop.{ReadStop}
use Rattle.project_reading.specs.declared.stops.ReadStop.TheVariants as stop
use Rattle.vunit_top.specs.declared.words.Task.{Task}
use Rattle.vunit_top.specs.Acts.{Object, Disk, Children, Out, Reports, Seen, seen, run_between, statuses_between, said_between, tests_since, Acts, RunsTests}
use Rattle.vunit_top.specs.Ends.{StopCounts, Writes, WritesReport}
use Rattle.project_reading.specs.declared.query.Query.{Query}
use Rattle.vunit_top.specs.Reading.{Reading, Testing, Exports, Builds, Runs, full_reading}
use Rattle.run_build.specs.Building.{has_risen}
use Rattle.vunit_top.specs.Runs.{RunsBy}
use Rattle.vunit_top.specs.Said.{Said, Says, SaysRun, IsSaid, HasEnded, Causes, IsAccounted, order_of, report_path_of, plan_in, plain_said, plain_run, build_said}
use Rattle.vunit_top.proofs.Tops.{some_said}
use Rattle.vunit_top.proofs.RunTruths.{runs_idle}
use Rattle.vunit_top.proofs.TestTruths.{nothing_written}

-- an answer that is neither a fault nor out of memory is that of a run that has ended
said_ended : (result : Outcome) → IsSaid result → HasEnded result
said_ended outcome.Done is = tt
said_ended outcome.TestsFailed is = tt
said_ended (outcome.Refused reason) is = tt
said_ended outcome.BadWords is = tt
said_ended (outcome.OutsideFault which) is = absurd is
said_ended outcome.NoMemory is = absurd is
said_ended (outcome.OverLimit limit) is = tt
said_ended (outcome.Child code) is = tt

-- two equal readings that build have equal orders
same_order : (order other : Order) (warnings more : List ℕ) → Builds order warnings ≡ Builds other more → order ≡ other
same_order order other warnings more is = cc

same_warnings : (order other : Order) (warnings more : List ℕ) → Builds order warnings ≡ Builds other more → warnings ≡ more
same_warnings order other warnings more is = cc

same_path : (path other text more : List ℕ) → Exports path text ≡ Exports other more → path ≡ other
same_path path other text more is = cc

same_text : (path other text more : List ℕ) → Exports path text ≡ Exports other more → text ≡ more
same_text path other text more is = cc

same_testing : (asked other : Testing) → Runs asked ≡ Runs other → asked ≡ other
same_testing asked other is = cc

-- a path that is given is one
nothing-given : (path : List ℕ) → Nothing ≡ Given path → ⊥
nothing-given path is = cc

plan_none : (asked : Testing) → Some asked.plan ≡ None → ⊥
plan_none asked is = cc

-- no test of a run that starts no child
idle_tests : (tells : Object → Type 0) (answer : Request → Exit) (asked : Testing) (result : Outcome) (journal : List Event) (moments : Moments) (failures : ℕ) (put now : List ℕ) (report after : List ℕ → Option (List ℕ)) → (HasEnded result → ⊥) →
    (tells Out → SaysRun result (plain_run (said_between asked (seen journal moments failures put report) (seen journal moments failures now after))) put now) →
    (tells Reports → WritesReport asked.report (said_between asked (seen journal moments failures put report) (seen journal moments failures now after)).report result report after) →
    RunsTests tells answer asked result (seen journal moments failures put report) (seen journal moments failures now after)
unfolding EachAfter
idle_tests tells answer asked result journal moments failures put now report after ended says writes =
    let none : since journal journal ≡ [] = since_itself journal in
    let lawful : LawfulTests (setting_after asked.order asked.plan (work_over records_in_image asked.order moments.now) []) [] = no_tests (setting_after asked.order asked.plan (work_over records_in_image asked.order moments.now) []) in
    record {
      parted = λ d c. subst (λ (l : List Event). l ≡ compile_part l ++ test_part l) (sym none) refl;
      tested = λ d c.
          subst (λ (l : List Event). HasTested asked.order asked.plan (work_over records_in_image asked.order moments.now) (compile_part l) (test_part l)) (sym none) (record { graph = λ some. absurd (some refl); made = λ some. absurd (some refl); lawful = lawful });
      answered = λ d c. subst (λ (l : List Event). Answered answer (test_part l)) (sym none) tt;
      recorded = λ d c some. absurd (some (ap test_part none));
      right = λ d c compiler is faithful.
          subst (λ (l : List Event). AreRightTests compiler asked.order asked.plan (test_part l)) (sym none) (lawful_right compiler asked.order asked.plan [] (no_tests (clean_setting compiler asked.order asked.plan)));
      whole = λ d c is. absurd (ended is);
      steady = λ d c is. absurd (ended is);
      says = λ d c o. says o;
      answers = λ d c said. absurd (ended (said_ended result said));
      writes = λ d c w. writes w;
    }

-- nor of one that is out of memory before it did anything
pub none_run : (tells : Object → Type 0) (answer : Request → Exit) (asked : Testing) (journal : List Event) (moments : Moments) (failures : ℕ) (put : List ℕ) (report : List ℕ → Option (List ℕ)) →
    RunsTests tells answer asked outcome.NoMemory (seen journal moments failures put report) (seen journal moments failures put report)
none_run tells answer asked journal moments failures put report =
    idle_tests tells answer asked outcome.NoMemory journal moments failures put put report report (λ ended. ended) (λ o. refl)
    (λ w. nothing_written fault.NoMemory asked.report (said_between asked (seen journal moments failures put report) (seen journal moments failures put report)).report report)

module _ (tells same : Object → Type 0) (scan : List ℕ → Finding) (answer : Request → Exit) where
  -- a run that leaves disk and children unchanged
  pub acts_idle : (r : Reading) (words : List (List ℕ)) (result : Outcome) (journal : List Event) (moments : Moments) → AreSound moments → (failures : ℕ) (put now : List ℕ) (report after : List ℕ → Option (List ℕ)) →
      (HasEnded result → order_of r ≡ None) → same Disk → same Children → (report_path_of r ≡ Nothing → same Reports) → ((path text : List ℕ) → r ≡ Exports path text → same Out) →
      (tells Out → (what : Said) → plain_said r ≡ Some what → Says result what put now) → ((what : Said) → plain_said r ≡ Some what → IsSaid result → result ≡ what.outcome) → (tells Out → (order : Order) (warnings : List ℕ) → r ≡ Builds order warnings → (what : Said) → Says result what put now) →
      (tells Reports → (path text : List ℕ) → r ≡ Exports path text → Writes result path text report after) →
      (tells Out → (asked : Testing) → r ≡ Runs asked → (what : Said) → SaysRun result what put now) →
      (tells Reports → (asked : Testing) → r ≡ Runs asked → (said : Option (List ℕ)) → WritesReport asked.report said result report after) →
      Acts tells same scan answer r words result (seen journal moments failures put report) (seen journal moments failures now after)
  acts_idle r words result journal moments sound failures put now report after unordered disk children reports out plain answered build writes says_run writes_run = record {
    ran = λ d c. runs_idle scan answer r words result (has_risen failures failures) journal moments sound unordered;
    untouched = λ none. (disk, children);
    unreported = reports;
    silent = out;
    says_plain = plain;
    answers_plain = answered;
    says_build = λ d c o order warnings is. build o order warnings is (build_said warnings order.graph (statuses_between order (seen journal moments failures put report) (seen journal moments failures now after)));
    answers = λ d c order warnings is said. absurd (none-some order (sym (unordered (said_ended result said)) ∙ ap order_of is));
    runs = λ asked is.
        idle_tests tells answer asked result journal moments failures put now report after (λ ended. none-some asked.order (sym (unordered ended) ∙ ap order_of is))
        (λ o. says_run o asked is (plain_run (said_between asked (seen journal moments failures put report) (seen journal moments failures now after))))
        (λ w. writes_run w asked is (said_between asked (seen journal moments failures put report) (seen journal moments failures now after)).report);
    untested = λ c none. no_test_since journal;
    writes = writes;
  }

  -- a run that builds nothing and writes no report, with outcome and text by its reading
  pub acts_quiet : (r : Reading) (words : List (List ℕ)) (result : Outcome) (journal : List Event) (moments : Moments) → AreSound moments → (failures : ℕ) (put now : List ℕ) (report : List ℕ → Option (List ℕ)) →
      order_of r ≡ None → report_path_of r ≡ Nothing → same Disk → same Children → same Reports → (tells Out → (what : Said) → plain_said r ≡ Some what → Says result what put now) → ((what : Said) → plain_said r ≡ Some what → IsSaid result → result ≡ what.outcome) →
      Acts tells same scan answer r words result (seen journal moments failures put report) (seen journal moments failures now report)
  acts_quiet r words result journal moments sound failures put now report unordered unreported disk children reports plain answered =
      acts_idle r words result journal moments sound failures put now report report (λ ended. unordered) disk children (λ none. reports)
      (λ path text is. absurd (nothing-given path (sym unreported ∙ ap report_path_of is)))
      plain answered
      (λ o order warnings is. absurd (none-some order (sym unordered ∙ ap order_of is)))
      (λ w path text is. absurd (nothing-given path (sym unreported ∙ ap report_path_of is)))
      (λ o asked is. absurd (none-some asked.order (sym unordered ∙ ap order_of is)))
      (λ w asked is. absurd (none-some asked.order (sym unordered ∙ ap order_of is)))

  says_of : (result : Outcome) (put now : List ℕ) (said : Option Said) → IfSome said (λ mine. tells Out → Says result mine put now) → tells Out → (what : Said) → said ≡ Some what → Says result what put now
  says_of result put now None given o what is = absurd (none-some what is)
  says_of result put now (Some mine) given o what is = subst (λ (w : Said). Says result w put now) (some_said mine what is) (given o)

  answers_of : (result : Outcome) (said : Option Said) → IfSome said (λ mine. IsSaid result → result ≡ mine.outcome) → (what : Said) → said ≡ Some what → IsSaid result → result ≡ what.outcome
  answers_of result None given what is answered = absurd (none-some what is)
  answers_of result (Some mine) given what is answered = given answered ∙ ap (λ (w : Said). w.outcome) (some_said mine what is)

  -- the same, from the outcome and text of the reading if it has them
  pub acts_said : (r : Reading) (words : List (List ℕ)) (result : Outcome) (journal : List Event) (moments : Moments) → AreSound moments → (failures : ℕ) (put now : List ℕ) (report : List ℕ → Option (List ℕ)) →
      order_of r ≡ None → report_path_of r ≡ Nothing → same Disk → same Children → same Reports → IfSome (plain_said r) (λ mine. tells Out → Says result mine put now) → IfSome (plain_said r) (λ mine. IsSaid result → result ≡ mine.outcome) →
      Acts tells same scan answer r words result (seen journal moments failures put report) (seen journal moments failures now report)
  acts_said r words result journal moments sound failures put now report unordered unreported disk children reports says answered =
      acts_quiet r words result journal moments sound failures put now report unordered unreported disk children reports (says_of result put now (plain_said r) says) (answers_of result (plain_said r) answered)

  -- one that is out of memory before it did anything
  pub acts_none : (r : Reading) (words : List (List ℕ)) (journal : List Event) (moments : Moments) → AreSound moments → (failures : ℕ) (put : List ℕ) (report : List ℕ → Option (List ℕ)) → same Disk → same Children → same Out → same Reports →
      Acts tells same scan answer r words outcome.NoMemory (seen journal moments failures put report) (seen journal moments failures put report)
  acts_none r words journal moments sound failures put report disk children out reports =
      acts_idle r words outcome.NoMemory journal moments sound failures put put report report (λ ended. absurd ended) disk children (λ none. reports) (λ path text is. out) (λ o what is. refl) (λ what is said. absurd said) (λ o order warnings is what. refl) (λ w path text is. refl)
      (λ o asked is what. refl) (λ w asked is said. nothing_written fault.NoMemory asked.report said report)

  -- one that writes a report
  pub acts_export : (path text : List ℕ) (words : List (List ℕ)) (result : Outcome) (journal : List Event) (moments : Moments) → AreSound moments → (failures : ℕ) (put : List ℕ) (report after : List ℕ → Option (List ℕ)) →
      same Disk → same Children → same Out → Says result (record { outcome = outcome.Done; text = [] }) put put → (IsSaid result → result ≡ outcome.Done) → (tells Reports → Writes result path text report after) →
      Acts tells same scan answer (Exports path text) words result (seen journal moments failures put report) (seen journal moments failures put after)
  acts_export path text words result journal moments sound failures put report after disk children out says answered writes =
      acts_idle (Exports path text) words result journal moments sound failures put put report after (λ ended. refl) disk children (λ none. absurd (nothing-given path (sym none))) (λ other more is. out)
      (λ o what said. subst (λ (w : Said). Says result w put put) (some_said (record { outcome = outcome.Done; text = [] }) what said) says)
      (λ what said is. answered is ∙ ap (λ (w : Said). w.outcome) (some_said (record { outcome = outcome.Done; text = [] }) what said))
      (λ o order warnings is. absurd (none-some order (ap order_of is)))
      (λ w other more is. subst (λ (t : List ℕ). Writes result other t report after) (same_text path other text more is) (subst (λ (p : List ℕ). Writes result p text report after) (same_path path other text more is) (writes w)))
      (λ o asked is. absurd (none-some asked.order (ap order_of is)))
      (λ w asked is. absurd (none-some asked.order (ap order_of is)))

  -- one that builds
  pub acts_built : (order : Order) (warnings : List ℕ) (words : List (List ℕ)) (result : Outcome) (before after : Seen) → same Reports →
      (tells Disk → tells Children → RunsBy scan answer (Builds order warnings) (run_between words result before after) before.moments after.moments) →
      (tells Disk → tells Children → tells Out → Says result (build_said warnings order.graph (statuses_between order before after)) before.put after.put) →
      (tells Disk → tells Children → IsSaid result → result ≡ build_outcome order.graph (statuses_between order before after)) → (tells Children → tests_since before after ≡ []) →
      Acts tells same scan answer (Builds order warnings) words result before after
  acts_built order warnings words result before after reports ran says answers untested = record {
    ran = ran;
    untouched = λ none. absurd (none-some order (sym none));
    unreported = λ none. reports;
    silent = λ path text is. absurd (nothing-given path (ap report_path_of is));
    says_plain = λ o what said. absurd (none-some what said);
    answers_plain = λ what said. absurd (none-some what said);
    runs = λ asked is. absurd (plan_none asked (sym (ap plan_in is)));
    untested = λ c none. untested c;
    says_build = λ d c o other more is.
        subst (λ (w : List ℕ). Says result (build_said w other.graph (statuses_between other before after)) before.put after.put) (same_warnings order other warnings more is)
        (subst (λ (b : Order). Says result (build_said warnings b.graph (statuses_between b before after)) before.put after.put) (same_order order other warnings more is) (says d c o));
    answers = λ d c other more is. subst (λ (b : Order). IsSaid result → result ≡ build_outcome b.graph (statuses_between b before after)) (same_order order other warnings more is) (answers d c);
    writes = λ w path text is. absurd (nothing-given path (ap report_path_of is));
  }

  -- one that builds and tests
  pub acts_tested : (asked : Testing) (words : List (List ℕ)) (result : Outcome) (before after : Seen) → (is_given asked.report ≡ false → same Reports) →
      (tells Disk → tells Children → RunsBy scan answer (Runs asked) (run_between words result before after) before.moments after.moments) → RunsTests tells answer asked result before after → Acts tells same scan answer (Runs asked) words result before after
  acts_tested asked words result before after reports ran runs = record {
    ran = ran;
    untouched = λ none. absurd (none-some asked.order (sym none));
    unreported = λ none. reports (ap is_given none);
    silent = λ path text is. let nothing : ⊥ = cc in absurd nothing;
    says_plain = λ o what said. absurd (none-some what said);
    answers_plain = λ what said. absurd (none-some what said);
    says_build = λ d c o order warnings is. let nothing : ⊥ = cc in absurd nothing;
    answers = λ d c order warnings is. let nothing : ⊥ = cc in absurd nothing;
    runs = λ other is. subst (λ (a : Testing). RunsTests tells answer a result before after) (same_testing asked other is) runs;
    untested = λ c none. absurd (plan_none asked none);
    writes = λ w path text is. let nothing : ⊥ = cc in absurd nothing;
  }

  -- what a run did, where its words are said in two ways
  pub acts_by : {words : List (List ℕ)} {result : Outcome} {before after : Seen} (j k : Result Task Reading) (s : Query → SourceReading) → j ≡ k → Acts tells same scan answer (full_reading k s) words result before after →
      Acts tells same scan answer (full_reading j s) words result before after
  acts_by {words} {result} {before} {after} j k s is acts = subst (λ (i : Result Task Reading). Acts tells same scan answer (full_reading i s) words result before after) (sym is) acts

-- counts that a run leaves at 0 aren't the cause of its answer
pub no_early : {result : Outcome} {old new : RunFaultCounts} → IsAccounted result old new → new.tree ≡ 0 → new.input ≡ 0 → (result ≡ outcome.OutsideFault which.Tree) ⊎ (result ≡ outcome.OutsideFault which.Input) → ⊥
no_early {result} {old} {new} accounted tree input (inl is) = let rose : min (old.tree + 1) (2 ^ 64 - 1) ≤ new.tree = subst (λ (o : Outcome). Causes o old new) is accounted.cause in omega (arith, tree)
no_early {result} {old} {new} accounted tree input (inr is) = let rose : min (old.input + 1) (2 ^ 64 - 1) ≤ new.input = subst (λ (o : Outcome). Causes o old new) is accounted.cause in omega (arith, input)

-- after a reading that stopped the count of the tree hasn't fallen
pub stop_later : (why : ReadStop) (before now : ℕ) → StopCounts why before now → before ≤ now
stop_later (stop.Refused reason) before now is = omega (arith, is)
stop_later (stop.Over limit number) before now is = omega (arith, is)
stop_later stop.Failed before now is = is.later
stop_later stop.NoMemory before now is = omega (arith, is)
