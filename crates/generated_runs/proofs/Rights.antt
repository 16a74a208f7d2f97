-- What a build did is what a clean build asks for, where what is recorded is what a clean build makes.
use Rattle.std.proofs.Common.{◌≡◌, true, List, [], ◌∷◌, ◌++◌, Result, Ok, Err, OnOk, sym, subst, ◌∙◌, inr}
use Rattle.std.specs.Prelude.{All}
use Rattle.std.specs.List.{list_all}
use Rattle.std.proofs.lemmas.Option.{none-some}
use Rattle.base.specs.declared.graph.BuiltFile.{BuiltFile}
use Rattle.base.specs.declared.graph.Entry.{Entry}
use Rattle.base.specs.declared.child.Request.{Request}
use Rattle.base.specs.declared.child.Exit.{Exit}
use Rattle.base.specs.declared.child.Event.{Event}
use Rattle.base.specs.declared.child.Event.TheVariants.{Started}
use Rattle.base.specs.Graphs.{IsGraph}
use Rattle.outside.specs.Records.{Record}
use Rattle.outside.specs.Records.{latest}
use Rattle.run_spec.specs.ChildJournal.{Work, Lawful, Answered}
use Rattle.run_spec.specs.CleanBuild.{RecordsClean}
use Rattle.run_spec.specs.Faithful.{IsTrueRecord}
use Rattle.run_spec.specs.JournalParts.{compile_part, test_part}
use Rattle.run_spec.specs.Statuses.{statuses_of}
use Rattle.run_laws.proofs.CleanCommits.{commits_true}
use Rattle.run_laws.proofs.CleanSettled.{request_clean}
use Rattle.run_laws.proofs.JournalSettled.{asked, all_started, all_steady}
use Rattle.run_laws.proofs.TrueRecords.{records_clean, All-latest}
use Rattle.run_spec.specs.declared.fault.RunFault.{RunFault}
use Rattle.run_build.specs.Ran.{is_made}
use Rattle.run_spec.specs.TestJournal.{LawfulTests}
use Rattle.run_tests.proofs.CleanLibraries.{built_clean}
use Rattle.run_tests.specs.Rights.{clean_setting}
use Rattle.run_tests.proofs.TestedRights.{lawful_right, no_tests}
use Rattle.project_reading.specs.declared.linking.ReadProject.{ReadProject}
use Rattle.generated_runs.specs.declared.options.GenerateOptions.{GenerateOptions}
use Rattle.generated_runs.specs.declared.options.GeneratedSaid.{GeneratedSaid}
use Rattle.generated_runs.specs.Sources.{no_record, first_work, first_records, second_work, second_order, plan_of, setting_of}
use Rattle.generated_runs.specs.Ran.{RanBuild, RanSecond, IsRightBuild, IsRightSecond}

abbrev Said : Type 0
Said = Result GeneratedSaid RunFault

abbrev fails : RunFault → Said
fails why = Err why

nothing_after : (before rest : List Event) (event : Event) → [] ≡ before ++ event ∷ rest → ⊥
nothing_after [] rest event e = cc
nothing_after (first ∷ before) rest event e = cc

-- a start that is there
some_event : (events before rest : List Event) (event : Event) → events ≡ before ++ event ∷ rest → events ≡ [] → ⊥
some_event events before rest event is none = nothing_after before rest event (sym none ∙ is)

on_both : {A B C : Type 0} (r : Said) → OnOk r A → OnOk r B → (A → B → C) → OnOk r C
on_both (Ok said) a b f = f a b
on_both (Err why) a b f = tt

-- a build over records that a clean build gives
right_over : (answer : Request → Exit) (work : Work) (r : Said) (events : List Event) → RanBuild answer work (OnOk r) events → (IsGraph work.graph → RecordsClean answer work.graph work.current) → IsRightBuild answer work (OnOk r) events
right_over answer work r events ran clean = record {
  asked = λ before rest ticket request is.
      let graph = ran.graph (some_event events before rest (Started ticket request) is) in
      let next = asked answer work graph before rest ticket request (subst (Lawful work) is ran.lawful) (subst (Answered answer) is ran.answered) in
      (next.0, next.1, request_clean answer work.graph graph work.current (clean graph) next.0 request next.2);
  started = on_both r ran.whole_graph ran.ended (λ graph whole none. all_started answer work graph events whole ran.answered (inr none));
  steady = on_both r ran.whole_graph ran.ended (λ graph whole none. all_steady answer work graph events whole ran.answered (inr none));
}

-- nothing was started
pub nothing_right : (answer : Request → Exit) (work : Work) (why : RunFault) → IsRightBuild answer work (OnOk (fails why)) []
nothing_right answer work why = record {
  asked = λ before rest ticket request is. absurd (nothing_after before rest (Started ticket request) is);
  started = tt;
  steady = tt;
}

pub nothing_tested : (answer : Request → Exit) (options : GenerateOptions) (work : Work) (read : ReadProject) (why : RunFault) → IsRightSecond answer options work read (OnOk (fails why)) []
nothing_tested answer options work read why = record {
  build = nothing_right answer work why;
  tests = lawful_right answer (second_order options read.graph) (plan_of read) [] (no_tests (clean_setting answer (second_order options read.graph) (plan_of read)));
}

-- over no record
clean_first : (answer : Request → Exit) (options : GenerateOptions) (graph : List Entry) → IsGraph graph → RecordsClean answer graph (first_work options graph).current
clean_first answer options graph valid = records_clean answer no_record graph valid (λ name kept is. absurd (none-some kept is))

pub right_first : (answer : Request → Exit) (options : GenerateOptions) (graph : List Entry) (r : Said) (events : List Event) → RanBuild answer (first_work options graph) (OnOk r) events → IsRightBuild answer (first_work options graph) (OnOk r) events
right_first answer options graph r events ran = right_over answer (first_work options graph) r events ran (clean_first answer options graph)

-- over true records
clean_second : (answer : Request → Exit) (options : GenerateOptions) (records : List Record) → All (IsTrueRecord answer) records → (graph : List Entry) → IsGraph graph → RecordsClean answer graph (second_work options records graph).current
clean_second answer options records all graph valid =
    records_clean answer (λ name. latest name records) graph valid (λ name kept is. All-latest (IsTrueRecord answer) name records kept all is)

-- no test, or some
tests_over : (answer : Request → Exit) (options : GenerateOptions) (work : Work) (read : ReadProject) (compiled tests : List Event) → ((tests ≡ [] → ⊥) → (setting_of options read work compiled).built ≡ (clean_setting answer (second_order options read.graph) (plan_of read)).built) →
    LawfulTests (setting_of options read work compiled) tests → LawfulTests (clean_setting answer (second_order options read.graph) (plan_of read)) tests
tests_over answer options work read compiled [] same lawful = no_tests (clean_setting answer (second_order options read.graph) (plan_of read))
tests_over answer options work read compiled (event ∷ tests) same lawful =
    subst (λ (files : List BuiltFile). LawfulTests (record { plan = plan_of read; built = files; slots = options.slots }) (event ∷ tests)) (same (λ e. let nothing : ⊥ = cc in nothing)) lawful

module _ (answer : Request → Exit) (options : GenerateOptions) (graph : List Entry) (read : ReadProject) (first : List Event) (valid : IsGraph graph) (lawful : Lawful (first_work options graph) first) (answered : Answered answer first) where
  abbrev records : List Record
  records = first_records options graph first

  are_true : All (IsTrueRecord answer) records
  are_true = commits_true answer (first_work options graph) valid first lawful answered

  abbrev again : Work
  again = second_work options records read.graph

  pub right_second : (r : Said) (events : List Event) → RanSecond answer again (setting_of options read again) (OnOk r) events → IsRightSecond answer options again read (OnOk r) events
  right_second r events ran = record {
    build = right_over answer again r (compile_part events) ran.built (clean_second answer options records are_true read.graph);
    tests = lawful_right answer (second_order options read.graph) (plan_of read) (test_part events)
        (tests_over answer options again read (compile_part events) (test_part events) same ran.tested);
  } where
    some_compiled : (compiled : List Event) → RanBuild answer again (OnOk r) compiled → list_all is_made (statuses_of again compiled) ≡ true → IsGraph read.graph → (setting_of options read again compiled).built ≡ (clean_setting answer (second_order options read.graph) (plan_of read)).built
    some_compiled compiled built made grown = built_clean answer again grown (clean_second answer options records are_true read.graph grown) compiled built.lawful built.answered made

    same : (test_part events ≡ [] → ⊥) → (setting_of options read again (compile_part events)).built ≡ (clean_setting answer (second_order options read.graph) (plan_of read)).built
    same some = some_compiled (compile_part events) ran.built (ran.made some) (ran.graph some)
