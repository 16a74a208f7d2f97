-- What a run did that generates a project.
use Rattle.std.proofs.Common.{ℕ, List, Err, refl}
use Rattle.base.specs.declared.child.Request.{Request}
use Rattle.base.specs.declared.child.Exit.{Exit}
use Rattle.base.specs.declared.child.Event.{Event}
use Rattle.base_outcomes.specs.declared.outcome.Outcome.TheVariants as outcome
use Rattle.run_spec.specs.ChildJournal.{since}
use Rattle.run_spec.specs.declared.fault.RunFault.TheVariants as fault
use Rattle.run_build.proofs.OverStore.{since_itself}
use Rattle.vhdl_spec.specs.Scans.{Finding}
use Rattle.generated_runs.specs.declared.options.GenerateOptions.{GenerateOptions}
use Rattle.generated_runs.specs.Sources.{first_reading, second_reading}
use Rattle.generated_runs.proofs.Parts.{all_fault}
use Rattle.vunit_top.specs.Generated.{GeneratesAs}

-- out of memory before anything was done
pub generates_none : (scan : List ℕ → Finding) (answer : Request → Exit) (options : GenerateOptions) (puts : Type 0) (journal : List Event) (put : List ℕ) → GeneratesAs scan answer options outcome.NoMemory puts (since journal journal) put put
generates_none scan answer options puts journal put = record {
  said = Err fault.NoMemory;
  ran = all_fault answer options (second_reading scan options) (first_reading scan options) fault.NoMemory (since journal journal) (since_itself journal);
  answers = refl;
  says = λ told. refl;
}
