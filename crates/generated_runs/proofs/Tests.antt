-- What the second build and its tests did, from what they did over their disk.
use Rattle.std.proofs.Common.{◌≡◌, Bool, true, List, [], ◌++◌, Option, Some, None, Result, Ok, Err, OnOk, IfOk, sym, ap, subst, ◌∙◌}
use Rattle.std.specs.Prelude.{if◌then◌else◌}
use Rattle.std.specs.List.{list_all}
use Rattle.std.proofs.lemmas.Bool.{cond-true, cond-false, false≢true}
use Rattle.base.specs.declared.child.Request.{Request}
use Rattle.base.specs.declared.child.Exit.{Exit}
use Rattle.base.specs.declared.child.Event.{Event}
use Rattle.outside.specs.Records.{Record}
use Rattle.run_spec.specs.declared.statuses.FileStatus.{FileStatus}
use Rattle.outside.specs.Disks.{DiskState, Moments}
use Rattle.run_spec.specs.ChildJournal.{Work, Answered, IsWhole}
use Rattle.base.specs.Graphs.{IsGraph}
use Rattle.run_spec.specs.JournalParts.{compile_part, test_part}
use Rattle.run_spec.specs.Statuses.{statuses_of}
use Rattle.run_spec.specs.declared.fault.RunFault.{RunFault}
use Rattle.run_build.specs.Ran.{is_made}
use Rattle.testbench_runs.specs.declared.ends.TestEnd.{TestEnd}
use Rattle.testbench_runs.specs.declared.ends.RunEnd.{RunEnd}
use Rattle.run_spec.specs.TestJournal.{TestSetting, LawfulTests, IsWholeTests}
use Rattle.run_tests.specs.Results.{test_ends}
use Rattle.run_tests.specs.declared.build_and_test.Tested.{Tested}
use Rattle.run_tests.specs.Tested.{SaysTests, TestsOver}
use Rattle.store.specs.Stored.{requests_in}
use Rattle.project_reading.specs.declared.linking.ReadProject.{ReadProject}
use Rattle.generated_runs.specs.declared.options.GenerateOptions.{GenerateOptions}
use Rattle.generated_runs.specs.Sources.{second_work, second_order, plan_of, setting_of}
use Rattle.generated_runs.specs.Ran.{RanBuild, RanSecond, RanTested, records_on}

-- the answer has the test ends of the events if all files are made, and none otherwise
ends_said : (setting : TestSetting) (made : Bool) (tests : Option TestEnd) (events : List Event) → SaysTests setting made tests events → tests ≡ (if made then Some (record { runs = test_ends setting events }) else None)
ends_said setting made None events says = sym (cond-false made (Some (record { runs = test_ends setting events })) None says)
ends_said setting made (Some end) events says = ap (λ (runs : List RunEnd). Some (record { runs = runs })) says.2 ∙ sym (cond-true made (Some (record { runs = test_ends setting events })) None says.0)

whole_if : (setting : TestSetting) (made : Bool) (tests : Option TestEnd) (events : List Event) → SaysTests setting made tests events → made ≡ true → IsWholeTests setting events
whole_if setting made None events says is = absurd (false≢true (sym says ∙ is))
whole_if setting made (Some end) events says is = says.1

-- the ends of such a run
abbrev gives : Tested → Result Tested RunFault
gives tested = Ok tested

abbrev fails : RunFault → Result Tested RunFault
fails why = Err why

module _ (answer : Request → Exit) (options : GenerateOptions) (read : ReadProject) (failed : Bool) (old new : Moments) (events : List Event) where
  abbrev work : Work
  work = second_work options (records_on old.now) read.graph

  abbrev setting : List Event → TestSetting
  setting compiled = setting_of options read work compiled

  abbrev Over : Result Tested RunFault → Type 0
  Over result = TestsOver requests_in answer (second_order options read.graph) (plan_of read) result failed old new events

  module _ (result : Result Tested RunFault) (over : Over result) where
    moved : (P : List Event → List Event → Type 0) → P over.compiled over.tests → P (compile_part events) (test_part events)
    moved P p = subst (P (compile_part events)) (sym over.simulators) (subst (λ (l : List Event). P l over.tests) (sym over.compilers) p)

    ran_over : (whole : Type 0 → Type 0) → whole (IsGraph read.graph) → whole (IsWhole work over.compiled) → whole (list_all is_made (statuses_of work over.compiled) ≡ true → IsWholeTests (setting over.compiled) over.tests) → RanSecond answer work setting whole events
    ran_over whole grown ended tested = record {
      parted = moved (λ c t. events ≡ c ++ t) over.parted;
      graph = λ some. over.builds.graph_form;
      built = moved (λ c t. RanBuild answer work whole c) (record { graph = λ some. over.builds.graph_form; whole_graph = grown; lawful = over.builds.lawful; answered = over.builds.answered; ended = ended });
      made = moved (λ c t. (t ≡ [] → ⊥) → list_all is_made (statuses_of work c) ≡ true) over.made;
      tested = moved (λ c t. LawfulTests (setting c) t) over.lawful;
      replied = moved (λ c t. Answered answer t) over.answered;
      all_tested = moved (λ c t. whole (list_all is_made (statuses_of work c) ≡ true → IsWholeTests (setting c) t)) tested;
    }

  pub tested_ended : (tested : Tested) → Over (Ok tested) → RanTested answer work options read (Ok tested) events
  tested_ended tested over =
      let has_status : tested.statuses ≡ statuses_of work over.compiled =
      subst (λ (r : Result (List FileStatus) RunFault). IfOk r (λ statuses. statuses ≡ statuses_of work over.compiled)) over.gives.0 over.builds.statuses in
      let whole : IsWhole work over.compiled = subst (λ (r : Result (List FileStatus) RunFault). OnOk r (IsWhole work over.compiled)) over.gives.0 over.builds.whole in
      let says : SaysTests (setting over.compiled) (list_all is_made (statuses_of work over.compiled)) tested.tests over.tests =
      subst (λ (m : List FileStatus). SaysTests (setting over.compiled) (list_all is_made m) tested.tests over.tests) has_status over.gives.1 in
      record {
        ran = ran_over (Ok tested) over (OnOk (gives tested)) over.builds.graph_form whole (whole_if (setting over.compiled) (list_all is_made (statuses_of work over.compiled)) tested.tests over.tests says);
        statuses = moved (Ok tested) over (λ c t. tested.statuses ≡ statuses_of work c) has_status;
        tests = moved (Ok tested) over (λ c t. tested.tests ≡ (if list_all is_made (statuses_of work c) then Some (record { runs = test_ends (setting c) t }) else None))
            (ends_said (setting over.compiled) (list_all is_made (statuses_of work over.compiled)) tested.tests over.tests says);
      }

  pub tested_faulted : (why other : RunFault) → Over (Err why) → RanTested answer work options read (Err other) events
  tested_faulted why other over = record {
    ran = ran_over (Err why) over (OnOk (fails other)) tt tt tt;
    statuses = tt;
    tests = tt;
  }

-- the same over records that reads of the disk give
pub over_records : (answer : Request → Exit) (options : GenerateOptions) (read : ReadProject) (records : List Record) (disk : DiskState) (result : Result Tested RunFault) (events : List Event) → records_on disk ≡ records →
    RanTested answer (second_work options (records_on disk) read.graph) options read result events → RanTested answer (second_work options records read.graph) options read result events
over_records answer options read records disk result events are ran =
    subst (λ (r : List Record). RanTested answer (second_work options r read.graph) options read result events) are ran
