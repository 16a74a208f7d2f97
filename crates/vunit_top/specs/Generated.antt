-- What was done and said where a project was generated.
use Rattle.std.specs.Prelude.{◌≡◌, ℕ, List, Result, Ok, Err}
use Rattle.base.specs.declared.child.Request.{Request}
use Rattle.base.specs.declared.child.Exit.{Exit}
use Rattle.base.specs.declared.child.Event.{Event}
use Rattle.base_outcomes.specs.declared.outcome.Outcome.{Outcome}
use Rattle.run_spec.specs.declared.fault.RunFault.{RunFault}
use Rattle.vhdl_spec.specs.Scans.{Finding}
use Rattle.generated_runs.specs.declared.options.GenerateOptions.{GenerateOptions}
use Rattle.generated_runs.specs.declared.options.GeneratedSaid.{GeneratedSaid}
use Rattle.generated_runs.specs.Sources.{first_reading, second_reading}
use Rattle.generated_runs.specs.Ran.{RanGenerated}
use Rattle.vunit_top.specs.Said.{Says, IsSaid, fault_outcome}

-- What is put, where this is to be said; after a fault nothing is.
abbrev pub SaysGenerated : Result GeneratedSaid RunFault → Outcome → List ℕ → List ℕ → Type 0
SaysGenerated (Ok said) result old new = Says result (record { outcome = said.outcome; text = said.text }) old new
SaysGenerated (Err fault) result old new = new ≡ old

-- what is answered: this, or that it couldn't be put; or the fault
abbrev pub AnswersGenerated : Result GeneratedSaid RunFault → Outcome → Type 0
AnswersGenerated (Ok said) result = IsSaid result → result ≡ said.outcome
AnswersGenerated (Err fault) result = result ≡ fault_outcome fault

-- What a run did that generates a project, and what it answers and puts. Its events are a build, and then a build with its tests,
-- over the generated sources before and after their edit. Outcome and text follow from these events.
pub record GeneratesAs (scan : List ℕ → Finding) (answer : Request → Exit) (options : GenerateOptions) (result : Outcome) (puts : Type 0) (events : List Event) (old new : List ℕ) : Type 0 where
  pub said : Result GeneratedSaid RunFault
  pub ran : RanGenerated answer options (first_reading scan options) (second_reading scan options) said events
  pub answers : AnswersGenerated said result
  pub says : puts → SaysGenerated said result old new
