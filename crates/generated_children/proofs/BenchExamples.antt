-- The examples, by computation.
use Rattle.std.proofs.Common.{refl}
use Rattle.std.specs.Fmt.{digits}
use Rattle.testbench_runs.specs.Runs.{escaped_byte, output_path, results_path, run_name}
use Rattle.child_tools.specs.Benches.{is_failure}
use Rattle.generated_sources.specs.BenchScans.{bench_entity_name}
use Rattle.generated_sources.specs.PackageLinks.{used_library}
use Rattle.generated_children.specs.TestExamples.{TestExamples}
use Rattle.generated_children.specs.TestedBench.{first_case, second_case}
use Rattle.generated_children.specs.CompiledTexts.{bench_artefact, package_line_words, script_words}

pub test_examples : TestExamples
unfolding digits escaped_byte output_path results_path run_name is_failure bench_entity_name used_library bench_artefact package_line_words script_words first_case second_case
test_examples = record { bench = refl; edited = refl; plain = refl; fails = refl; other = refl; results = refl; name = refl; names = refl; folder = refl }
