-- The answer to the file of the bench.
use Rattle.std.proofs.Common.{◌≡◌, ℕ, ◌≤◌, Bool, true, false, ◌||◌, List, [], ◌∷◌, ◌++◌, length, None, refl, sym, ap, ◌∙◌, arith}
use Rattle.std.specs.Fmt.{digits}
use Rattle.base.specs.Graphs.{IsBuilt}
use Rattle.base.specs.Jobs.{compile_input, compile_request}
use Rattle.base.specs.declared.child.Exit.{Exit}
use Rattle.base.specs.declared.child.Request.{Request}
use Rattle.base.specs.Names.{FitsName}
use Rattle.base.specs.declared.graph.BuiltFile.{BuiltFile}
use Rattle.base.specs.declared.graph.Entry.{Entry}
use Rattle.base.specs.declared.limits.TheConstants.{ARTEFACT_LIMIT, TEXT_LIMIT}
use Rattle.base.specs.declared.refs.Ref.{Ref}
use Rattle.vhdl_spec.specs.References.{refs_of}
use Rattle.vhdl_spec.specs.Scans.{Finding, IsScanner}
use Rattle.vhdl_spec.specs.Units.{word_role}
use Rattle.vhdl_spec.specs.Words.{reserved_words}
use Rattle.child_lines.specs.Ends.{ends_with}
use Rattle.child_lines.specs.Lines.{after_word}
use Rattle.child_tools.specs.Answers.{analysis, with_own}
use Rattle.child_tools.specs.Artefacts.{artefact_of, kind_word, of_entity, unit_line}
use Rattle.child_tools.specs.Exports.{exported_by, exports, exports_unit, first_missing, strict_unit, strict_units, wanted_units}
use Rattle.vhdl_units.specs.declared.units.UnitKey.{UnitKey}
use Rattle.generated_project.specs.Files.{bench_body, bench_head, bench_path}
use Rattle.generated_sources.proofs.BenchFindings.{bench_found}
use Rattle.generated_sources.specs.BenchScans.{bench_architecture, bench_entity, bench_entity_name, bench_scan, bench_file_tokens, entity_ref}
use Rattle.generated_sources.specs.PackageLinks.{used_library, used_ref}
use Rattle.generated_sources.specs.PackageScans.{package_name}
use Rattle.memory_children.specs.Answers.{loop_answer}
use Rattle.memory_children.specs.OneAnswer.{IsLoopAnswer}
use Rattle.generated_children.proofs.Answering.{IsClean, clean_answer, lib_job}
use Rattle.generated_children.proofs.LoopExits.{answer_of, compiler_exit}
use Rattle.generated_children.proofs.Linking.{after_export, before_export, lib_unit, missing_more, one_exports, package_is_exported}
use Rattle.generated_children.proofs.Sizes.{name_fits}
use Rattle.generated_children.specs.CompiledFiles.{HasPackage, IsLoopEntry}
use Rattle.generated_children.specs.CompiledTexts.{bench_artefact}

abbrev text : List ℕ
text = bench_head ++ bench_body

-- ## The artefact

artefact_is : artefact_of text bench_scan ≡ bench_artefact
unfolding artefact_of unit_line kind_word of_entity bench_entity_name bench_artefact
artefact_is = refl

pub artefact_small : length bench_artefact ≤ ARTEFACT_LIMIT
unfolding bench_artefact
artefact_small = omega arith

own_export : exports_unit bench_artefact bench_entity_name ≡ true
unfolding bench_artefact bench_entity_name exported_by after_word
own_export = refl

-- ## What it wants: the first package, and its own entity

abbrev first_name : List ℕ
first_name = 112 ∷ 49 ∷ []

first_named : package_name 1 ≡ first_name
unfolding digits
first_named = refl

entity_refs : refs_of text bench_file_tokens bench_entity ≡ used_ref first_name ∷ []
unfolding bench_head bench_body bench_entity_name used_library word_role reserved_words
entity_refs = refl

architecture_refs : refs_of text bench_file_tokens bench_architecture ≡ entity_ref ∷ []
unfolding bench_head bench_body bench_entity_name used_library word_role reserved_words
architecture_refs = refl

abbrev wanted : List UnitKey
wanted = lib_unit first_name ∷ lib_unit bench_entity_name ∷ []

strict_are : strict_units used_library (used_ref first_name ∷ []) ++ (strict_units used_library (entity_ref ∷ []) ++ []) ≡ wanted
unfolding strict_unit used_library
strict_are = refl

wants : wanted_units used_library text bench_scan ≡ wanted
unfolding wanted_units
wants =
    ap (λ (refs : List Ref). strict_units used_library refs ++ (strict_units used_library (refs_of text bench_file_tokens bench_architecture) ++ [])) entity_refs
    ∙ ap (λ (refs : List Ref). strict_units used_library (used_ref first_name ∷ []) ++ (strict_units used_library refs ++ [])) architecture_refs
    ∙ strict_are

-- ## The answer

text_small : length text ≤ TEXT_LIMIT
unfolding bench_head bench_body
text_small = omega arith

bench_name_fits : FitsName (record { library = used_library; path = bench_path })
unfolding bench_path
bench_name_fits = name_fits bench_path (omega arith) (omega arith)

module _ (deps : List BuiltFile) (has : HasPackage 1 deps) where
  abbrev own : BuiltFile
  own = record { name = record { library = used_library; path = bench_path }; artefact = bench_artefact }

  first_exported : exports (deps ++ own ∷ []) (lib_unit first_name) ≡ true
  first_exported = before_export (lib_unit first_name) deps (own ∷ []) (ap (λ (name : List ℕ). exports deps (lib_unit name)) (sym first_named) ∙ package_is_exported 1 deps (omega arith) has)

  own_exported : exports (deps ++ own ∷ []) (lib_unit bench_entity_name) ≡ true
  own_exported = after_export (lib_unit bench_entity_name) deps (own ∷ []) (ap (λ (test : Bool). test || false) (one_exports (lib_unit bench_entity_name) own refl own_export))

  links : first_missing (with_own (lib_job bench_path text deps) bench_artefact) wanted ≡ None
  links =
      missing_more (deps ++ own ∷ []) (lib_unit first_name) (lib_unit bench_entity_name ∷ []) first_exported
      ∙ missing_more (deps ++ own ∷ []) (lib_unit bench_entity_name) [] own_exported

  bench_clean : IsClean bench_path text deps bench_scan bench_artefact wanted
  bench_clean = record { accepted = refl; artefact_is = artefact_is; small = artefact_small; wants = wants; links = links }

  pub bench_analysed : (scan : List ℕ → Finding) (entry : Entry) → IsScanner scan → IsLoopEntry bench_path text entry → IsBuilt deps → analysis scan (compile_input entry.name entry.text deps) ≡ ends_with 0 bench_artefact
  bench_analysed scan entry scans source built =
      clean_answer scan bench_path text entry deps bench_scan bench_artefact wanted source bench_name_fits text_small built (bench_found scan scans) bench_clean

  pub bench_exit : (scan : List ℕ → Finding) (entry : Entry) → IsScanner scan → IsLoopEntry bench_path text entry → IsBuilt deps → loop_answer scan (compile_request entry deps) ≡ ends_with 0 bench_artefact
  bench_exit scan entry scans asked built = compiler_exit scan entry deps bench_artefact asked.compiler artefact_small (bench_analysed scan entry scans asked built)

  pub bench_answer : (answer : Request → Exit) (entry : Entry) → IsLoopAnswer answer → IsLoopEntry bench_path text entry → IsBuilt deps → answer (compile_request entry deps) ≡ ends_with 0 bench_artefact
  bench_answer answer entry is asked built = answer_of answer (compile_request entry deps) (ends_with 0 bench_artefact) is (λ scan scans. bench_exit scan entry scans asked built)
