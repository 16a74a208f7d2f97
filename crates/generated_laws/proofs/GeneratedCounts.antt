-- The outcome and text of a run with the generated project, by the files that its builds compiled and the cases that passed.
use Rattle.std.proofs.Common.{◌≡◌, ℕ, true, List, length, Some, None, Result, Ok, OnOk, refl, sym, ap, subst, ◌∙◌}
use Rattle.std.specs.Prelude.{count_by}
use Rattle.std.specs.List.{list_all}
use Rattle.std.proofs.lemmas.Bool.{cond-true}
use Rattle.base.specs.declared.child.Request.{Request}
use Rattle.base.specs.declared.child.Exit.{Exit}
use Rattle.base.specs.declared.child.Event.{Event}
use Rattle.outside.specs.Records.{Record}
use Rattle.base_outcomes.specs.declared.outcome.Outcome.{Outcome}
use Rattle.base_outcomes.specs.declared.outcome.Outcome.TheVariants as outcome
use Rattle.run_spec.specs.ChildJournal.{Work}
use Rattle.run_spec.specs.JournalParts.{compile_part, test_part}
use Rattle.run_spec.specs.Statuses.{is_compiled, statuses_of}
use Rattle.run_spec.specs.declared.fault.RunFault.{RunFault}
use Rattle.run_build.specs.Ran.{is_made}
use Rattle.testbench_runs.specs.declared.ends.RunEnd.{RunEnd}
use Rattle.testbench_runs.specs.Verdicts.{is_passed_verdict}
use Rattle.run_spec.specs.TestJournal.{TestSetting, IsWholeTests}
use Rattle.run_tests.specs.Results.{test_ends}
use Rattle.report.specs.Counts.{all_verdicts, tests_outcome}
use Rattle.run_tests.specs.Libraries.{libraries}
use Rattle.run_tests.proofs.CleanLibraries.{built_clean}
use Rattle.project_reading.specs.Reading.{SourceReading, Found}
use Rattle.project_reading.specs.declared.linking.ReadProject.{ReadProject}
use Rattle.generated_project.specs.Files.{files_in}
use Rattle.generated_project.specs.Lines.{count_lines}
use Rattle.generated_runs.specs.declared.options.GenerateOptions.{GenerateOptions}
use Rattle.generated_runs.specs.declared.options.GeneratedSaid.{GeneratedSaid}
use Rattle.generated_runs.specs.Sources.{first_work, first_records, second_work, setting_of, runs_in, plan_of}
use Rattle.generated_runs.specs.Said.{statuses_said, tests_of, tested_said, second_said}
use Rattle.generated_runs.specs.Ran.{RanBuild, RanSecond, RanGenerated}
use Rattle.generated_laws.specs.Compiled.{CompilesOnly}
use Rattle.generated_laws.specs.Edits.{MakesAll, ChangesFile, is_touched, touched_files}
use Rattle.generated_laws.specs.Passes.{PassesAll, case_count}
use Rattle.generated_laws.specs.Counted.{HavePassed, passed_said}
use Rattle.generated_laws.proofs.BothBuilds as builds
use Rattle.generated_laws.proofs.PassedCases.{total_is, passed_is, done}

abbrev pub gives : GeneratedSaid → Result GeneratedSaid RunFault
gives said = Ok said

module _ (answer : Request → Exit) (options : GenerateOptions) (read : ReadProject) (makes : MakesAll answer read.graph) (changed : SourceReading) (said : GeneratedSaid) (events : List Event)
    (ran : RanGenerated answer options (Found read) changed (gives said) events) where
  abbrev work : Work
  work = first_work options read.graph

  built : RanBuild answer work (OnOk (gives said)) ran.first
  built = ran.built read refl

  first_made : list_all is_made (statuses_of work ran.first) ≡ true
  first_made = builds.first_made answer options.slots read.graph makes ran.first built.ended built.answered

  pub first_compiled : CompilesOnly read.graph (λ at. true) (length read.graph) (statuses_of work ran.first)
  first_compiled = builds.first_compiled answer options.slots read.graph makes ran.first built.ended built.answered

module _ (answer : Request → Exit) (options : GenerateOptions) (read again : ReadProject) (makes : MakesAll answer read.graph) (makes_again : MakesAll answer again.graph)
    (said : GeneratedSaid) (events : List Event) (ran : RanGenerated answer options (Found read) (Found again) (gives said) events) where
  abbrev first : List Event
  first = ran.first

  abbrev compiled : List Event
  compiled = compile_part ran.second

  abbrev tests : List Event
  tests = test_part ran.second

  abbrev records : List Record
  records = first_records options read.graph first

  abbrev work_again : Work
  work_again = second_work options records again.graph

  begun : RanBuild answer (first_work options read.graph) (OnOk (gives said)) first
  begun = ran.built read refl

  begun_made : list_all is_made (statuses_of (first_work options read.graph) first) ≡ true
  begun_made = first_made answer options read makes (Found again) said events ran

  -- ## The second build

  ran_again : RanSecond answer work_again (setting_of options again work_again) (OnOk (gives said)) ran.second
  ran_again = ran.ran read again refl refl begun_made

  second_made : list_all is_made (statuses_of work_again compiled) ≡ true
  second_made = builds.second_made answer options.slots read.graph makes first begun.ended begun.answered again.graph makes_again compiled ran_again.built.ended ran_again.built.answered

  pub second_compiled : (edited : ℕ) → ChangesFile answer edited read.graph again.graph → CompilesOnly read.graph (is_touched read.graph edited) (touched_files read.graph edited) (statuses_of work_again compiled)
  second_compiled edited changes =
      builds.second_compiled answer options.slots read.graph makes first begun.ended begun.answered again.graph makes_again compiled ran_again.built.ended ran_again.built.answered edited changes

  -- ## The tests

  module _ (passes : PassesAll answer (plan_of again) (libraries answer again.graph)) where
    abbrev setting : TestSetting
    setting = setting_of options again work_again compiled

    abbrev ends : List RunEnd
    ends = test_ends setting tests

    whole_tests : IsWholeTests setting tests
    whole_tests = ran_again.all_tested second_made

    passes_built : PassesAll answer setting.plan setting.built
    passes_built =
        subst (PassesAll answer (plan_of again))
        (sym (built_clean answer work_again makes_again.graph_form (builds.again_clean answer options.slots read.graph makes first begun.ended begun.answered again.graph makes_again)
        compiled ran_again.built.lawful ran_again.built.answered second_made)) passes

    total : length (all_verdicts ends) ≡ case_count (runs_in again)
    total = total_is answer setting refl passes_built tests whole_tests ran_again.replied

    passed : count_by is_passed_verdict (all_verdicts ends) ≡ case_count (runs_in again)
    passed = passed_is answer setting refl passes_built tests whole_tests ran_again.replied

    is_done : tests_outcome ends options.exit_0 ≡ outcome.Done
    is_done = done answer setting refl passes_built tests whole_tests ran_again.replied options.exit_0

    is_end : tests_of options again work_again ran.second ≡ Some (record { runs = ends })
    is_end = cond-true (list_all is_made (statuses_of work_again compiled)) (Some (record { runs = ends })) None second_made

    pub have_passed : HavePassed (runs_in again) (tests_of options again work_again ran.second)
    have_passed = record { end = record { runs = ends }; is_end = is_end; total = total; passed = passed }

    -- ## The outcome and the text

    abbrev lines_of : (first second passed total : ℕ) → Outcome → GeneratedSaid
    lines_of first second passed total outcome = record { outcome = outcome; text = count_lines (record { files = files_in options.packages; first = first; second = second; passed = passed; total = total }) }

    numbers : (a b c d : ℕ) (o p : Outcome) {f s m n : ℕ} → a ≡ f → b ≡ s → c ≡ m → d ≡ n → o ≡ p → lines_of a b c d o ≡ lines_of f s m n p
    numbers a b c d o p {f} {s} {m} {n} one two three four five =
        ap (λ (x : ℕ). lines_of x b c d o) one ∙ ap (λ (x : ℕ). lines_of f x c d o) two ∙ ap (λ (x : ℕ). lines_of f s x d o) three ∙ ap (λ (x : ℕ). lines_of f s m x o) four ∙ ap (lines_of f s m n) five

    pub said_is : (edited : ℕ) → ChangesFile answer edited read.graph again.graph → said ≡ passed_said options edited read again
    said_is edited changes =
        let count : ℕ = count_by is_compiled (statuses_of (first_work options read.graph) first) in
        ran.says
        ∙ cond-true (list_all is_made (statuses_of (first_work options read.graph) first)) (second_said options count records (Found again) ran.second) (statuses_said read (statuses_of (first_work options read.graph) first)) begun_made
        ∙ ap (tested_said options count again (statuses_of work_again compiled)) is_end
        ∙ numbers count (count_by is_compiled (statuses_of work_again compiled)) (count_by is_passed_verdict (all_verdicts ends)) (length (all_verdicts ends)) (tests_outcome ends options.exit_0) outcome.Done
        (first_compiled answer options read makes (Found again) said events ran).count_is (second_compiled edited changes).count_is passed total is_done
