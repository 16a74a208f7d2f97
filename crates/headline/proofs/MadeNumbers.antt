-- The compiler that is part of the program makes the artefact of each file.
use Rattle.std.proofs.Common.{◌≡◌, ◌≢◌, ℕ, zero, suc, ◌/◌, ◌^◌, ◌<◌, ◌≤◌, Bool, true, false, List, length, refl, ap, arith}
use Rattle.std.specs.Prelude.{◌==◌}
use Rattle.std.proofs.lemmas.Bool.Decides.{nat_tests}
use Rattle.base.specs.Jobs.{compile_request}
use Rattle.base.specs.declared.child.Exit.{Exit}
use Rattle.base.specs.declared.child.Request.{Request}
use Rattle.base.specs.declared.file.FileName.{FileName}
use Rattle.base.specs.declared.graph.BuiltFile.{BuiltFile}
use Rattle.base.specs.declared.graph.Entry.{Entry}
use Rattle.base.specs.declared.limits.TheConstants.{ARTEFACT_LIMIT}
use Rattle.child_lines.specs.Ends.{ends_with}
use Rattle.memory_children.specs.Answers.{second_word}
use Rattle.memory_children.specs.OneAnswer.{IsLoopAnswer}
use Rattle.project_file.specs.Csv.{listed_command}
use Rattle.generated_sources.specs.NumberedFiles.{numbered_bytes, numbered_path, uses_number}
use Rattle.generated_children.specs.CompiledFiles.{HasPackage, IsLoopEntry}
use Rattle.generated_children.specs.CompiledTexts.{bench_artefact, package_artefact}
use Rattle.generated_children.proofs.BenchAnswers as bench
use Rattle.generated_children.proofs.PackageAnswers as packages
use Rattle.generated_children.proofs.Sizes as sizes
use Rattle.generated_laws.specs.NumberedBuilds.{HasNumberBuilt, IsMadeBy, IsNumberAsked, MakesNumbered}
use Rattle.generated_laws.specs.NumberedGraphs.{IsEntryOfNumber}
use Rattle.headline.specs.SaidOfSizes.{made_artefact}

pub made_small : (number : ℕ) (noted : Bool) → number < 2 ^ 64 → length (made_artefact number noted) ≤ ARTEFACT_LIMIT
made_small zero noted small = bench.artefact_small
made_small (suc before) noted small = sizes.artefact_small (suc before) noted small

pub made_differ : (number : ℕ) → 1 ≤ number → made_artefact number true ≢ made_artefact number false
made_differ zero some same = absurd (omega (arith, some))
made_differ (suc before) some same = sizes.artefacts_differ (suc before) same

-- the file of a number as that compiler is asked for it
asked_of : (edited number : ℕ) (entry : Entry) → IsEntryOfNumber listed_command edited number entry → IsLoopEntry (numbered_path number) (numbered_bytes edited number) entry
asked_of edited number entry is = record {
  library = ap (λ (name : FileName). name.library) is.name_is;
  path_is = ap (λ (name : FileName). name.path) is.name_is;
  text_is = is.text_is;
  compiler = ap second_word is.command_is;
}

package_of : (number : ℕ) (built : List BuiltFile) → 1 ≤ number → HasNumberBuilt made_artefact number built → HasPackage number built
package_of zero built some has = absurd (omega (arith, some))
package_of (suc before) built some has = record { file = has.file; among = has.among; is = record { library = has.is.library; noted = has.is.noted; artefact = has.is.artefact_is } }

half_used : (before : ℕ) → 1 < suc before → uses_number (suc before) (suc before / 2) ≡ true
half_used before more = grind (arith, nat_tests)

module _ (answer : Request → Exit) (is : IsLoopAnswer answer) where
  made_by : (request : Request) (artefact : List ℕ) → answer request ≡ ends_with 0 artefact → IsMadeBy artefact (answer request)
  made_by request artefact ends = record { code = ap (λ (exit : Exit). exit.code) ends; output = ap (λ (exit : Exit). exit.output) ends }

  makes_one : (edited number : ℕ) (entry : Entry) (built : List BuiltFile) → number < 2 ^ 64 → IsNumberAsked made_artefact listed_command edited number entry built → IsMadeBy (made_artefact number (number == edited)) (answer (compile_request entry built))
  makes_one edited zero entry built small asked =
      made_by (compile_request entry built) bench_artefact (bench.bench_answer built (package_of 1 built (omega arith) (asked.uses 1 refl)) answer entry is (asked_of edited zero entry asked.entry_is) asked.built_are)
  makes_one edited (suc before) entry built small asked =
      made_by (compile_request entry built) (package_artefact (suc before) (suc before == edited))
      (packages.package_answer (suc before) (suc before == edited) built (omega arith) small (λ more. package_of (suc before / 2) built (omega (arith, more)) (asked.uses (suc before / 2) (half_used before more))) answer entry is (asked_of edited (suc before) entry asked.entry_is) asked.built_are)

  pub makes_numbered : (count : ℕ) → count < 2 ^ 64 → MakesNumbered count listed_command made_artefact answer
  makes_numbered count small = record {
    small = λ number noted low. made_small number noted (omega (arith, low, small));
    makes = λ edited number entry built low asked. makes_one edited number entry built (omega (arith, low, small)) asked;
  }
