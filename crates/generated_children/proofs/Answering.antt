-- The answer to a file in which nothing is wrong: its artefact.
use Rattle.std.proofs.Common.{◌≡◌, ℕ, ◌≤◌, Bool, cond, List, length, Option, None, ap, ◌∙◌}
use Rattle.std.specs.Prelude.{codes}
use Rattle.std.specs.Option.{option_map_or}
use Rattle.std.proofs.lemmas.Bool.{le-leb}
use Rattle.base.specs.Graphs.{IsBuilt}
use Rattle.base.specs.Jobs.{compile_input}
use Rattle.base.specs.Names.{FitsName}
use Rattle.base.specs.declared.design.Scan.{Scan}
use Rattle.base.specs.declared.graph.BuiltFile.{BuiltFile}
use Rattle.base.specs.declared.graph.Entry.{Entry}
use Rattle.base.specs.declared.limits.TheConstants.{ARTEFACT_LIMIT, TEXT_LIMIT}
use Rattle.vhdl_spec.specs.Scans.{Finding, Clean}
use Rattle.child_compile_request.proofs.Jobs.{job_again}
use Rattle.child_compile_request.specs.Jobs.{IsJob, job_bytes}
use Rattle.child_compile_request.specs.declared.reading.CompileJob.{CompileJob}
use Rattle.child_lines.specs.Ends.{bad_request, ends_with}
use Rattle.child_tools.specs.Answers.{analysis, answer, answer_by, linked, made, no_unit, refused, scripted, with_own}
use Rattle.child_tools.specs.Artefacts.{artefact_of}
use Rattle.child_tools.specs.Exports.{first_missing, wanted_units}
use Rattle.child_tools.specs.Scripts.{first_refusal}
use Rattle.vhdl_units.specs.declared.units.UnitKey.{UnitKey}
use Rattle.generated_sources.specs.PackageLinks.{used_library}
use Rattle.generated_children.specs.CompiledFiles.{IsLoopEntry}

-- the job of a file of the library `lib`
abbrev pub lib_job : (path text : List ℕ) → List BuiltFile → CompileJob
lib_job path text deps = record { name = record { library = used_library; path = path }; text = text; deps = deps }

-- nothing is wrong in a text: its scan, the artefact that is made of it, and the units that it wants of others, which are there
pub record IsClean (path text : List ℕ) (deps : List BuiltFile) (found : Scan) (artefact : List ℕ) (wanted : List UnitKey) : Type 0 where
  pub accepted : first_refusal text found.tokens.comments ≡ None
  pub artefact_is : artefact_of text found ≡ artefact
  pub small : length artefact ≤ ARTEFACT_LIMIT
  pub wants : wanted_units used_library text found ≡ wanted
  pub links : first_missing (with_own (lib_job path text deps) artefact) wanted ≡ None

made_is : (artefact : List ℕ) → length artefact ≤ ARTEFACT_LIMIT → made artefact ≡ ends_with 0 artefact
unfolding made
made_is artefact small = ap (λ (test : Bool). cond test (ends_with 0 artefact) (refused (codes "artefact too long"))) (le-leb (length artefact) ARTEFACT_LIMIT small)

linked_is : (job : CompileJob) (artefact : List ℕ) (units : List UnitKey) → length artefact ≤ ARTEFACT_LIMIT → first_missing (with_own job artefact) units ≡ None → linked job artefact units ≡ ends_with 0 artefact
unfolding linked
linked_is job artefact units small links = ap (λ (missing : Option UnitKey). option_map_or (no_unit job.name) missing (made artefact)) links ∙ made_is artefact small

scripted_is : (path text : List ℕ) (deps : List BuiltFile) (found : Scan) (artefact : List ℕ) (wanted : List UnitKey) → IsClean path text deps found artefact wanted → scripted (lib_job path text deps) found ≡ ends_with 0 artefact
unfolding scripted
scripted_is path text deps found artefact wanted clean =
    ap (λ (line : Option (List ℕ)). option_map_or refused line (linked (lib_job path text deps) (artefact_of text found) (wanted_units used_library text found))) clean.accepted
    ∙ ap (λ (bytes : List ℕ). linked (lib_job path text deps) bytes (wanted_units used_library text found)) clean.artefact_is
    ∙ ap (linked (lib_job path text deps) artefact) clean.wants
    ∙ linked_is (lib_job path text deps) artefact wanted clean.small clean.links

answer_is : (scan : List ℕ → Finding) (path text : List ℕ) (deps : List BuiltFile) (found : Scan) → scan text ≡ Clean found → answer scan (lib_job path text deps) ≡ scripted (lib_job path text deps) found
unfolding answer_by
answer_is scan path text deps found is = ap (answer_by (lib_job path text deps)) is

job_read : (scan : List ℕ → Finding) (job : CompileJob) → IsJob job → analysis scan (job_bytes job) ≡ answer scan job
unfolding analysis
job_read scan job is = ap (λ (read : Option CompileJob). option_map_or (answer scan) read bad_request) (job_again job is)

-- the compiler's input for such a file is its encoded job
input_is : (path text : List ℕ) (entry : Entry) (deps : List BuiltFile) → IsLoopEntry path text entry → compile_input entry.name entry.text deps ≡ job_bytes (lib_job path text deps)
input_is path text entry deps source =
    ap (λ (library : List ℕ). compile_input (record { library = library; path = entry.name.path }) entry.text deps) source.library
    ∙ ap (λ (of_file : List ℕ). compile_input (record { library = used_library; path = of_file }) entry.text deps) source.path_is
    ∙ ap (λ (bytes : List ℕ). compile_input (record { library = used_library; path = path }) bytes deps) source.text_is

pub clean_answer : (scan : List ℕ → Finding) (path text : List ℕ) (entry : Entry) (deps : List BuiltFile) (found : Scan) (artefact : List ℕ) (wanted : List UnitKey)
    → IsLoopEntry path text entry → FitsName (record { library = used_library; path = path }) → length text ≤ TEXT_LIMIT → IsBuilt deps → scan text ≡ Clean found → IsClean path text deps found artefact wanted
    → analysis scan (compile_input entry.name entry.text deps) ≡ ends_with 0 artefact
clean_answer scan path text entry deps found artefact wanted source fits short built is clean =
    ap (analysis scan) (input_is path text entry deps source)
    ∙ job_read scan (lib_job path text deps) (record { name = fits; text = short; deps = built })
    ∙ answer_is scan path text deps found is
    ∙ scripted_is path text deps found artefact wanted clean
