-- The artefacts of two packages and of the bench, by computation.
use Rattle.std.proofs.Common.{refl}
use Rattle.std.specs.Fmt.{digits}
use Rattle.generated_children.specs.CompiledExamples.{CompiledExamples}
use Rattle.generated_children.specs.CompiledTexts.{bench_artefact, script_words, package_line_words}

pub compiled_examples : CompiledExamples
unfolding digits bench_artefact script_words package_line_words
compiled_examples = record { first = refl; first_noted = refl; twelfth = refl; twelfth_noted = refl; bench = refl }
