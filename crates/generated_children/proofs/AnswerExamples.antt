-- The answers to three files, by the laws.
use Rattle.std.proofs.Common.{ℕ, true, false, List, [], ◌∷◌, ◌++◌, refl, arith}
use Rattle.std.specs.Fmt.{digits}
use Rattle.std.proofs.lemmas.List.Elements.{All-cons, All-nil}
use Rattle.base.specs.Graphs.{IsBuilt, IsBuiltFile}
use Rattle.base.specs.declared.graph.BuiltFile.{BuiltFile}
use Rattle.vhdl_spec.specs.Scans.{Finding, IsScanner}
use Rattle.generated_project.specs.Files.{library_words, all_words, package_words, constant_words, end_words, note_line, source_folder, source_end, bench_path, bench_head, bench_body, package_path, package_text}
use Rattle.generated_sources.specs.PackageLinks.{used_library}
use Rattle.generated_children.proofs.BenchAnswers.{bench_exit}
use Rattle.generated_children.proofs.PackageAnswers.{package_exit}
use Rattle.generated_children.proofs.Sizes.{package_file_fits}
use Rattle.generated_children.specs.AnswerExamples.{AnswerExamples, loop_entry}
use Rattle.generated_children.specs.CompiledFiles.{HasPackage, IsPackageBuilt}
use Rattle.generated_children.specs.CompiledTexts.{bench_artefact, package_artefact, package_line_words, script_words}

-- one file that was built
abbrev built : (number : ℕ) → BuiltFile
built number = record { name = record { library = used_library; path = package_path number }; artefact = package_artefact number false }

one_built : (number : ℕ) → IsBuiltFile (built number) → IsBuilt (built number ∷ [])
one_built number is = record { few = omega arith; each = All-cons IsBuiltFile (built number) [] is (All-nil IsBuiltFile) }

is_it : (number : ℕ) → IsPackageBuilt number (built number)
is_it number = record { library = refl; noted = false; artefact = refl }

has_it : (number : ℕ) → HasPackage number (built number ∷ [])
has_it number = record { file = built number; among = (0, omega arith, refl); is = is_it number }

none_built : IsBuilt []
none_built = record { few = omega arith; each = All-nil IsBuiltFile }

pub answer_examples : (scan : List ℕ → Finding) → IsScanner scan → AnswerExamples scan
unfolding digits library_words all_words package_words constant_words end_words note_line source_folder source_end bench_path bench_head bench_body used_library bench_artefact package_line_words script_words
answer_examples scan scans = record {
  first = package_exit 1 false [] (omega arith) (omega arith) (λ more. absurd (omega (arith, more))) scan (loop_entry (package_path 1) (package_text 1 false)) scans (record { library = refl; path_is = refl; text_is = refl; compiler = refl }) none_built;
  twelfth =
      package_exit 12 true (built 6 ∷ []) (omega arith) (omega arith) (λ more. has_it 6) scan (loop_entry (package_path 12) (package_text 12 true)) scans (record { library = refl; path_is = refl; text_is = refl; compiler = refl })
      (one_built 6 (package_file_fits 6 (built 6) (omega arith) refl (is_it 6)));
  bench =
      bench_exit (built 1 ∷ []) (has_it 1) scan (loop_entry bench_path (bench_head ++ bench_body)) scans (record { library = refl; path_is = refl; text_is = refl; compiler = refl })
      (one_built 1 (package_file_fits 1 (built 1) (omega arith) refl (is_it 1)));
}
