-- What was done with the generated project, from its parts.
use Rattle.std.proofs.Common.{◌≡◌, ℕ, true, false, List, [], ◌++◌, Result, Ok, Err, OnOk, IfOk, refl, sym, ap, subst, ◌∙◌}
use Rattle.std.specs.Prelude.{count_by}
use Rattle.std.specs.List.{list_all}
use Rattle.std.proofs.lemmas.Bool.{cond-true, cond-false, false≢true}
use Rattle.std.proofs.lemmas.List.{append-nil, append_assoc}
use Rattle.base.specs.declared.child.Request.{Request}
use Rattle.base.specs.declared.child.Exit.{Exit}
use Rattle.base.specs.declared.child.Event.{Event}
use Rattle.outside.specs.Records.{Record}
use Rattle.run_spec.specs.declared.statuses.FileStatus.{FileStatus}
use Rattle.outside.specs.Disks.{DiskState}
use Rattle.run_spec.specs.Moves.{LawfulMoves}
use Rattle.run_spec.specs.ChildJournal.{Work, EachAfter, since}
use Rattle.run_spec.specs.JournalParts.{compile_part}
use Rattle.run_spec.specs.Statuses.{is_compiled, statuses_of}
use Rattle.run_spec.proofs.Journal.{since-added}
use Rattle.run_spec.proofs.Prefixes.{lawful_none}
use Rattle.run_spec.specs.declared.fault.RunFault.{RunFault}
use Rattle.run_build.specs.Ran.{is_made}
use Rattle.run_spec.specs.TestJournal.{TestSetting, LawfulTests, test_moves, AreTestsRequested}
use Rattle.run_tests.specs.declared.build_and_test.Tested.{Tested}
use Rattle.project_reading.specs.Reading.{SourceReading, Found}
use Rattle.project_reading.specs.declared.linking.ReadProject.{ReadProject}
use Rattle.generated_runs.specs.declared.options.GenerateOptions.{GenerateOptions}
use Rattle.generated_runs.specs.declared.options.GeneratedSaid.{GeneratedSaid}
use Rattle.generated_runs.specs.Sources.{first_work, first_records, second_work, setting_of}
use Rattle.generated_runs.specs.Said.{statuses_said, tested_said, second_said, generated_said}
use Rattle.generated_runs.specs.Ran.{RanBuild, RanFirst, RanSecond, RanTested, RanEdited, RanGenerated, IsRightBuild, IsRightSecond}
use Rattle.generated_runs.proofs.Rights.{nothing_right, nothing_tested, right_first, right_second}

abbrev gives : GeneratedSaid → Result GeneratedSaid RunFault
gives said = Ok said

abbrev fails : RunFault → Result GeneratedSaid RunFault
fails why = Err why

abbrev tests : Tested → Result Tested RunFault
tests tested = Ok tested

-- a journal that grew twice
pub grown_twice : (old middle new : List Event) → middle ≡ old ++ since old middle → new ≡ middle ++ since middle new → since old new ≡ since old middle ++ since middle new
grown_twice old middle new first second =
    ap (since old) (second ∙ ap (λ (l : List Event). l ++ since middle new) first ∙ append_assoc old (since old middle) (since middle new))
    ∙ since-added old (since old middle ++ since middle new)

same_read : (a b : ReadProject) → Found a ≡ Found b → a ≡ b
same_read a b is = cc

-- ## Nothing was started

nothing_lawful : (setting : TestSetting) → LawfulTests setting []
unfolding LawfulMoves test_moves AreTestsRequested EachAfter
nothing_lawful setting = record { moves = tt; requests = tt; tickets = tt }

nothing_ran : (answer : Request → Exit) (work : Work) (setting : List Event → TestSetting) (why : RunFault) → RanSecond answer work setting (OnOk (fails why)) []
unfolding EachAfter
nothing_ran answer work setting why = record {
  parted = refl;
  graph = λ some. absurd (some refl);
  built = record { graph = λ some. absurd (some refl); whole_graph = tt; lawful = lawful_none work; answered = tt; ended = tt };
  made = λ some. absurd (some refl);
  tested = nothing_lawful (setting []);
  replied = tt;
  all_tested = tt;
}

-- ## The second part

module _ (answer : Request → Exit) (options : GenerateOptions) (records : List Record) (first : ℕ) where
  pub edited_fault : (edited : SourceReading) (why : RunFault) (events : List Event) → events ≡ [] → RanEdited answer options edited records first (Err why) events
  edited_fault edited why events none = record {
    ran = λ read is. subst (λ (l : List Event). RanSecond answer (second_work options records read.graph) (setting_of options read (second_work options records read.graph)) (OnOk (fails why)) l) (sym none) (nothing_ran answer (second_work options records read.graph) (setting_of options read (second_work options records read.graph)) why);
    unread = λ h. none;
    says = tt;
  }

  -- the edited sources gave nothing to build
  pub edited_stop : (edited : SourceReading) (said : GeneratedSaid) (events : List Event) → events ≡ [] → ((read : ReadProject) → edited ≡ Found read → ⊥) → said ≡ second_said options first records edited events →
      RanEdited answer options edited records first (Ok said) events
  edited_stop edited said events none stops says = record { ran = λ read is. absurd (stops read is); unread = λ h. none; says = says }

  module _ (read : ReadProject) (events : List Event) where
    abbrev work : Work
    work = second_work options records read.graph

    -- by another fault, or none, after the build and its tests
    weaker : (result : Result Tested RunFault) (why : RunFault) → RanSecond answer work (setting_of options read work) (OnOk result) events → RanSecond answer work (setting_of options read work) (OnOk (fails why)) events
    weaker result why ran = record {
      parted = ran.parted;
      graph = ran.graph;
      built = record { graph = ran.built.graph; whole_graph = tt; lawful = ran.built.lawful; answered = ran.built.answered; ended = tt };
      made = ran.made;
      tested = ran.tested;
      replied = ran.replied;
      all_tested = tt;
    }

    same : (tested : Tested) (said : GeneratedSaid) → RanSecond answer work (setting_of options read work) (OnOk (tests tested)) events → RanSecond answer work (setting_of options read work) (OnOk (gives said)) events
    same tested said ran = record {
      parted = ran.parted;
      graph = ran.graph;
      built = record { graph = ran.built.graph; whole_graph = ran.built.whole_graph; lawful = ran.built.lawful; answered = ran.built.answered; ended = ran.built.ended };
      made = ran.made;
      tested = ran.tested;
      replied = ran.replied;
      all_tested = ran.all_tested;
    }

    moved : (result : Result GeneratedSaid RunFault) → RanSecond answer work (setting_of options read work) (OnOk result) events → (other : ReadProject) → Found read ≡ Found other →
        RanSecond answer (second_work options records other.graph) (setting_of options other (second_work options records other.graph)) (OnOk result) events
    moved result ran other is = subst (λ (r : ReadProject). RanSecond answer (second_work options records r.graph) (setting_of options r (second_work options records r.graph)) (OnOk result) events) (same_read read other is) ran

    pub edited_faulted : (result : Result Tested RunFault) (why : RunFault) → RanTested answer work options read result events → RanEdited answer options (Found read) records first (Err why) events
    edited_faulted result why ran = record {
      ran = λ other is. moved (Err why) (weaker result why ran.ran) other is;
      unread = λ none. absurd (none read refl);
      says = tt;
    }

    pub edited_said : (tested : Tested) (said : GeneratedSaid) → RanTested answer work options read (Ok tested) events → said ≡ tested_said options first read tested.statuses tested.tests → RanEdited answer options (Found read) records first (Ok said) events
    edited_said tested said ran says = record {
      ran = λ other is. moved (Ok said) (same tested said ran.ran) other is;
      unread = λ none. absurd (none read refl);
      says = says
          ∙ ap (λ (m : List FileStatus). tested_said options first read m tested.tests) ran.statuses
          ∙ ap (tested_said options first read (statuses_of work (compile_part events))) ran.tests;
    }

-- ## Both

module _ (answer : Request → Exit) (options : GenerateOptions) (edited : SourceReading) where
  -- nothing was started, since the sources gave nothing to build, or memory was out before
  pub all_fault : (reading : SourceReading) (why : RunFault) (events : List Event) → events ≡ [] → RanGenerated answer options reading edited (Err why) events
  unfolding EachAfter
  all_fault reading why events none = record {
    first = [];
    second = [];
    parted = none;
    unread = λ h. (refl, refl);
    built = λ read is. record { graph = λ some. absurd (some refl); whole_graph = tt; lawful = lawful_none (first_work options read.graph); answered = tt; ended = tt };
    compilers = (refl, refl);
    unread_again = λ h. refl;
    halted = λ read is h. refl;
    ran = λ read again is other made. nothing_ran answer (second_work options (first_records options read.graph []) again.graph) (setting_of options again (second_work options (first_records options read.graph []) again.graph)) why;
    right = λ read is. nothing_right answer (first_work options read.graph) why;
    right_again = λ read again is other made. nothing_tested answer options (second_work options (first_records options read.graph []) again.graph) again why;
    says = tt;
  }

  pub all_stop : (reading : SourceReading) (said : GeneratedSaid) (events : List Event) → events ≡ [] → ((read : ReadProject) → reading ≡ Found read → ⊥) → said ≡ generated_said options reading edited [] [] → RanGenerated answer options reading edited (Ok said) events
  all_stop reading said events none stops says = record {
    first = [];
    second = [];
    parted = none;
    unread = λ h. (refl, refl);
    built = λ read is. absurd (stops read is);
    compilers = (refl, refl);
    unread_again = λ h. refl;
    halted = λ read is h. refl;
    ran = λ read again is other made. absurd (stops read is);
    right = λ read is. absurd (stops read is);
    right_again = λ read again is other made. absurd (stops read is);
    says = says;
  }

  module _ (read : ReadProject) where
    abbrev built_first : Work
    built_first = first_work options read.graph

    by_read : (P : ReadProject → Type 0) → P read → (other : ReadProject) → Found read ≡ Found other → P other
    by_read P p other is = subst P (same_read read other is) p

    faulted : (result : Result (List FileStatus) RunFault) (why : RunFault) (disk : DiskState) (events : List Event) → RanFirst answer built_first result disk events → RanBuild answer built_first (OnOk (fails why)) events
    faulted result why disk events ran = record { graph = ran.built.graph; whole_graph = tt; lawful = ran.built.lawful; answered = ran.built.answered; ended = tt }

    -- the first build had a fault, or what was to be said of it found no memory
    pub earlier_fault : (result : Result (List FileStatus) RunFault) (why : RunFault) (disk : DiskState) (events : List Event) → RanFirst answer built_first result disk events →
        RanGenerated answer options (Found read) edited (Err why) events
    earlier_fault result why disk events ran = record {
      first = events;
      second = [];
      parted = sym (append-nil events);
      unread = λ none. absurd (none read refl);
      built = by_read (λ r. RanBuild answer (first_work options r.graph) (OnOk (fails why)) events) (faulted result why disk events ran);
      compilers = ran.compilers;
      unread_again = λ h. refl;
      halted = λ other is h. refl;
      ran = λ other again is found made. nothing_ran answer (second_work options (first_records options other.graph events) again.graph) (setting_of options again (second_work options (first_records options other.graph events) again.graph)) why;
      right = by_read (λ r. IsRightBuild answer (first_work options r.graph) (OnOk (fails why)) events) (right_first answer options read.graph (fails why) events (faulted result why disk events ran));
      right_again = λ other again is found made. nothing_tested answer options (second_work options (first_records options other.graph events) again.graph) again why;
      says = tt;
    }

    module _ (statuses : List FileStatus) (disk : DiskState) (events : List Event) (ran : RanFirst answer built_first (Ok statuses) disk events) where
      on_any : {X : Type 0} → X → (r : Result GeneratedSaid RunFault) → OnOk r X
      on_any x (Ok said) = x
      on_any x (Err why) = tt

      ended : (r : Result GeneratedSaid RunFault) → RanBuild answer built_first (OnOk r) events
      ended r = record { graph = ran.built.graph; whole_graph = on_any ran.built.whole_graph r; lawful = ran.built.lawful; answered = ran.built.answered; ended = on_any ran.built.ended r }

      -- a file isn't made
      pub first_said : (said : GeneratedSaid) → list_all is_made statuses ≡ false → said ≡ statuses_said read statuses → RanGenerated answer options (Found read) edited (Ok said) events
      first_said said left says = record {
        first = events;
        second = [];
        parted = sym (append-nil events);
        unread = λ none. absurd (none read refl);
        built = by_read (λ r. RanBuild answer (first_work options r.graph) (OnOk (gives said)) events) (ended (gives said));
        compilers = ran.compilers;
        unread_again = λ h. refl;
        halted = λ other is h. refl;
        ran = λ other again is found made. absurd (false≢true (sym (ap (list_all is_made) (sym ran.statuses) ∙ left) ∙ by_read (λ r. list_all is_made (statuses_of (first_work options r.graph) events) ≡ true → list_all is_made (statuses_of built_first events) ≡ true) (λ h. h) other is made));
        right = by_read (λ r. IsRightBuild answer (first_work options r.graph) (OnOk (gives said)) events) (right_first answer options read.graph (gives said) events (ended (gives said)));
        right_again = λ other again is found made. absurd (false≢true (sym (ap (list_all is_made) (sym ran.statuses) ∙ left) ∙ by_read (λ r. list_all is_made (statuses_of (first_work options r.graph) events) ≡ true → list_all is_made (statuses_of built_first events) ≡ true) (λ h. h) other is made));
        says = says ∙ ap (statuses_said read) ran.statuses
            ∙ sym (cond-false (list_all is_made (statuses_of built_first events)) (second_said options (count_by is_compiled (statuses_of built_first events)) (first_records options read.graph events) edited []) (statuses_said read (statuses_of built_first events)) (ap (list_all is_made) (sym ran.statuses) ∙ left));
      }

      -- all are made, and the second part follows
      pub both_ran : (result : Result GeneratedSaid RunFault) (later all : List Event) → list_all is_made statuses ≡ true → all ≡ events ++ later →
          RanEdited answer options edited (first_records options read.graph events) (count_by is_compiled statuses) result later → RanGenerated answer options (Found read) edited result all
      both_ran result later all made parted next = record {
        first = events;
        second = later;
        parted = parted;
        unread = λ none. absurd (none read refl);
        built = by_read (λ r. RanBuild answer (first_work options r.graph) (OnOk result) events) (ended result);
        compilers = ran.compilers;
        unread_again = next.unread;
        halted = λ other is left. absurd (false≢true (sym (by_read (λ r. list_all is_made (statuses_of (first_work options r.graph) events) ≡ false → list_all is_made (statuses_of built_first events) ≡ false) (λ h. h) other is left) ∙ all_made));
        ran = λ other again is found h. by_read (λ r. RanSecond answer (second_work options (first_records options r.graph events) again.graph) (setting_of options again (second_work options (first_records options r.graph events) again.graph)) (OnOk result) later) (next.ran again found) other is;
        right = by_read (λ r. IsRightBuild answer (first_work options r.graph) (OnOk result) events) (right_first answer options read.graph result events (ended result));
        right_again = λ other again is found h. by_read (λ r. IsRightSecond answer options (second_work options (first_records options r.graph events) again.graph) again (OnOk result) later)
            (right_second answer options read.graph again events ran.built.whole_graph ran.built.lawful ran.built.answered result later (next.ran again found)) other is;
        says = both_says result next.says;
      } where
        all_made : list_all is_made (statuses_of built_first events) ≡ true
        all_made = ap (list_all is_made) (sym ran.statuses) ∙ made

        both_says : (r : Result GeneratedSaid RunFault) → IfOk r (λ said. said ≡ second_said options (count_by is_compiled statuses) (first_records options read.graph events) edited later) → IfOk r (λ said. said ≡ generated_said options (Found read) edited events later)
        both_says (Err why) says = tt
        both_says (Ok said) says =
            says
            ∙ ap (λ (m : List FileStatus). second_said options (count_by is_compiled m) (first_records options read.graph events) edited later) ran.statuses
            ∙ sym (cond-true (list_all is_made (statuses_of built_first events)) (second_said options (count_by is_compiled (statuses_of built_first events)) (first_records options read.graph events) edited later) (statuses_said read (statuses_of built_first events)) all_made)
