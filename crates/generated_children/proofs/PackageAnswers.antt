-- The answer to the file of a package.
use Rattle.std.proofs.Common.{◌≡◌, ℕ, ◌/◌, ◌^◌, ◌<◌, Bool, true, false, List, [], ◌∷◌, ◌++◌, None, refl, ap, ◌∙◌, arith, append_assoc}
use Rattle.std.specs.Prelude.{if◌then◌else◌}
use Rattle.std.specs.Fmt.{decimal}
use Rattle.std.specs.List.{flat_map}
use Rattle.std.proofs.lemmas.Bool.Decides.{nat_tests}
use Rattle.std.proofs.lemmas.List.{append-nil}
use Rattle.base.specs.Graphs.{IsBuilt}
use Rattle.base.specs.Jobs.{compile_input, compile_request}
use Rattle.base.specs.declared.child.Exit.{Exit}
use Rattle.base.specs.declared.child.Request.{Request}
use Rattle.base.specs.declared.graph.BuiltFile.{BuiltFile}
use Rattle.base.specs.declared.graph.Entry.{Entry}
use Rattle.base.specs.declared.refs.Ref.{Ref}
use Rattle.vhdl_spec.specs.Scans.{Finding, IsScanner}
use Rattle.child_lines.specs.Ends.{ends_with}
use Rattle.child_tools.specs.Answers.{analysis, with_own}
use Rattle.child_tools.specs.Artefacts.{artefact_of, comment_line, kind_word, of_entity, unit_line}
use Rattle.child_tools.specs.Exports.{exports, first_missing, strict_unit, strict_units, wanted_units}
use Rattle.vhdl_units.specs.declared.units.UnitKey.{UnitKey}
use Rattle.generated_project.specs.Files.{package_path, package_text}
use Rattle.generated_sources.proofs.PackageFindings.{half_small, package_found}
use Rattle.generated_sources.proofs.PackageReferences.{package_refers}
use Rattle.generated_sources.specs.PackageLinks.{file_refs, used_library}
use Rattle.generated_sources.specs.PackageScans.{file_unit, is_alone, package_comments, package_name, package_scan}
use Rattle.memory_children.specs.Answers.{loop_answer}
use Rattle.memory_children.specs.OneAnswer.{IsLoopAnswer}
use Rattle.generated_children.proofs.Answering.{IsClean, clean_answer, lib_job}
use Rattle.generated_children.proofs.LoopExits.{answer_of, compiler_exit}
use Rattle.generated_children.proofs.Linking.{before_export, lib_unit, missing_more, package_is_exported}
use Rattle.generated_children.proofs.Scripts.{none_refused, scripts_are}
use Rattle.generated_children.proofs.Sizes.{artefact_small, package_name_fits, text_small}
use Rattle.generated_children.specs.CompiledFiles.{HasPackage, IsLoopEntry}
use Rattle.generated_children.specs.CompiledTexts.{package_artefact, script_lines, package_line_words}

-- ## The artefact

package_line : (alone : Bool) (name : List ℕ) → unit_line (file_unit alone name) ≡ package_line_words ++ (name ++ 10 ∷ [])
unfolding unit_line kind_word of_entity package_line_words
package_line alone name = refl

lines_joined : (words name scripts : List ℕ) → ((words ++ (name ++ 10 ∷ [])) ++ []) ++ scripts ≡ words ++ (name ++ (10 ∷ scripts))
lines_joined words name scripts =
    ap (λ (line : List ℕ). line ++ scripts) (append-nil (words ++ (name ++ 10 ∷ [])))
    ∙ append_assoc words (name ++ 10 ∷ []) scripts
    ∙ ap (λ (more : List ℕ). words ++ more) (append_assoc name (10 ∷ []) scripts)

artefact_is : (number : ℕ) (noted : Bool) → artefact_of (package_text number noted) (package_scan number noted) ≡ package_artefact number noted
unfolding artefact_of
artefact_is number noted =
    ap (λ (line : List ℕ). (line ++ []) ++ flat_map (comment_line (package_text number noted)) (package_comments number noted)) (package_line (is_alone number) (package_name number))
    ∙ ap (λ (lines : List ℕ). ((package_line_words ++ (package_name number ++ 10 ∷ [])) ++ []) ++ lines) (scripts_are (is_alone number) (decimal (number / 2)) (decimal number) noted)
    ∙ lines_joined package_line_words (package_name number) (script_lines noted)

-- ## The package that it uses

-- what a file that uses a package of this name wants, if it uses any
abbrev wanted_of : (alone : Bool) → (used : List ℕ) → List UnitKey
wanted_of alone used = if alone then [] else lib_unit used ∷ []

strict_are : (alone : Bool) (used : List ℕ) → strict_units used_library (file_refs alone used) ++ [] ≡ wanted_of alone used
unfolding strict_unit used_library
strict_are true used = refl
strict_are false used = refl

wants : (number : ℕ) (noted : Bool) → number < 2 ^ 64 → wanted_units used_library (package_text number noted) (package_scan number noted) ≡ wanted_of (is_alone number) (package_name (number / 2))
unfolding wanted_units
wants number noted small =
    ap (λ (refs : List Ref). strict_units used_library refs ++ []) (package_refers number noted small)
    ∙ strict_are (is_alone number) (package_name (number / 2))

none_missing : (alone : Bool) (used : List ℕ) (files : List BuiltFile) → (alone ≡ false → exports files (lib_unit used) ≡ true) → first_missing files (wanted_of alone used) ≡ None
none_missing true used files has = refl
none_missing false used files has = missing_more files (lib_unit used) [] (has refl)

not_first : (number : ℕ) → 0 < number → is_alone number ≡ false → 1 < number
not_first number some other = grind (arith, nat_tests)

-- ## The answer

module _ (number : ℕ) (noted : Bool) (deps : List BuiltFile) (some : 0 < number) (small : number < 2 ^ 64) (has : 1 < number → HasPackage (number / 2) deps) where
  links : first_missing (with_own (lib_job (package_path number) (package_text number noted) deps) (package_artefact number noted)) (wanted_of (is_alone number) (package_name (number / 2))) ≡ None
  links = none_missing (is_alone number) (package_name (number / 2)) (with_own (lib_job (package_path number) (package_text number noted) deps) (package_artefact number noted)) (λ other.
      before_export (lib_unit (package_name (number / 2))) deps _ (package_is_exported (number / 2) deps (half_small number small) (has (not_first number some other))))

  package_clean : IsClean (package_path number) (package_text number noted) deps (package_scan number noted) (package_artefact number noted) (wanted_of (is_alone number) (package_name (number / 2)))
  package_clean = record {
    accepted = none_refused (is_alone number) (decimal (number / 2)) (decimal number) noted;
    artefact_is = artefact_is number noted;
    small = artefact_small number noted small;
    wants = wants number noted small;
    links = links;
  }

  pub package_analysed : (scan : List ℕ → Finding) (entry : Entry) → IsScanner scan → IsLoopEntry (package_path number) (package_text number noted) entry → IsBuilt deps → analysis scan (compile_input entry.name entry.text deps) ≡ ends_with 0 (package_artefact number noted)
  package_analysed scan entry scans source built =
      clean_answer scan (package_path number) (package_text number noted) entry deps (package_scan number noted) (package_artefact number noted) (wanted_of (is_alone number) (package_name (number / 2)))
      source (package_name_fits number small) (text_small number noted small) built (package_found scan number noted scans small) package_clean

  pub package_exit : (scan : List ℕ → Finding) (entry : Entry) → IsScanner scan → IsLoopEntry (package_path number) (package_text number noted) entry → IsBuilt deps → loop_answer scan (compile_request entry deps) ≡ ends_with 0 (package_artefact number noted)
  package_exit scan entry scans asked built = compiler_exit scan entry deps (package_artefact number noted) asked.compiler (artefact_small number noted small) (package_analysed scan entry scans asked built)

  pub package_answer : (answer : Request → Exit) (entry : Entry) → IsLoopAnswer answer → IsLoopEntry (package_path number) (package_text number noted) entry → IsBuilt deps → answer (compile_request entry deps) ≡ ends_with 0 (package_artefact number noted)
  package_answer answer entry is asked built = answer_of answer (compile_request entry deps) (ends_with 0 (package_artefact number noted)) is (λ scan scans. package_exit scan entry scans asked built)
