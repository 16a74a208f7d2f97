-- What a run answers and puts that generates a project.
use Rattle.std.proofs.Common.{◌≡◌, ℕ, ◌≤◌, List, ◌++◌, Result, Ok, Err, refl, ap, subst, ◌∙◌}
use Rattle.base.specs.declared.child.Event.{Event}
use Rattle.base.specs.declared.child.Exit.{Exit}
use Rattle.base.specs.declared.child.Request.{Request}
use Rattle.base_outcomes.specs.declared.outcome.Outcome.{Outcome}
use Rattle.base_outcomes.specs.declared.outcome.Outcome.TheVariants.{Done}
use Rattle.run_spec.specs.declared.fault.RunFault.{RunFault}
use Rattle.run_spec.specs.declared.fault.RunFault.TheVariants as fault
use Rattle.memory_children.specs.OneAnswer.{IsLoopAnswer}
use Rattle.vhdl_spec.specs.Scans.{Finding, IsScanner}
use Rattle.generated_runs.specs.Ran.{RanGenerated}
use Rattle.generated_runs.specs.Sources.{first_reading, second_reading}
use Rattle.generated_runs.specs.declared.options.GenerateOptions.{GenerateOptions}
use Rattle.generated_runs.specs.declared.options.GeneratedSaid.{GeneratedSaid}
use Rattle.vunit_top.specs.Generated.{AnswersGenerated, GeneratesAs, SaysGenerated}
use Rattle.vunit_top.specs.Said.{IsSaid, Says, fault_outcome}
use Rattle.headline.specs.SaidOfSizes.{IsAnsweredInFull, said_of_size}
use Rattle.headline.proofs.SaidOfSizes.{said_of}

-- a fault is answered by no answer that is said
no_answer : (which : RunFault) → IsSaid (fault_outcome which) → ⊥
no_answer fault.NoMemory is = is
no_answer fault.StartFailed is = is
no_answer fault.ChildLost is = is
no_answer fault.DiskFailed is = is

in_full : (count : ℕ) (result : Outcome) (puts : Type 0) (old new : List ℕ) (end : Result GeneratedSaid RunFault) → ((said : GeneratedSaid) → end ≡ Ok said → said ≡ said_of_size count) → AnswersGenerated end result → (puts → SaysGenerated end result old new) →
    IsAnsweredInFull count result puts old new
in_full count result puts old new (Ok said) exact answers says =
    let is : said ≡ said_of_size count = exact said refl in
    let done : IsSaid result → result ≡ Done = λ told. answers told ∙ ap (λ (s : GeneratedSaid). s.outcome) is in
    record {
      done = done;
      lines = λ told put. (subst (λ (r : Outcome). Says r (record { outcome = said.outcome; text = said.text }) old new) (done told) (says put)).1 ∙ ap (λ (s : GeneratedSaid). old ++ s.text) is;
    }
in_full count result puts old new (Err which) exact answers says = record {
  done = λ told. absurd (no_answer which (subst IsSaid answers told));
  lines = λ told put. absurd (no_answer which (subst IsSaid answers told));
}

pub answered : (scan : List ℕ → Finding) (answer : Request → Exit) (options : GenerateOptions) (result : Outcome) (puts : Type 0) (events : List Event) (old new : List ℕ) → IsScanner scan → IsLoopAnswer answer → 1 ≤ options.packages → options.packages ≤ 4095 →
    GeneratesAs scan answer options result puts events old new → IsAnsweredInFull options.packages result puts old new
answered scan answer options result puts events old new scans is some low ran =
    in_full options.packages result puts old new ran.said
    (λ said ended. said_of scan scans answer is options some low said events (subst (λ (end : Result GeneratedSaid RunFault). RanGenerated answer options (first_reading scan options) (second_reading scan options) end events) ended ran.ran))
    ran.answers ran.says
