-- Some sizes, worked out by hand.
use Rattle.std.proofs.Common.{refl}
use Rattle.std.specs.Fmt.{digits}
use Rattle.base.specs.PresentGraph.{below}
use Rattle.generated_project.specs.Lines.{files_words, first_words, of_word, passed_words, second_words}
use Rattle.generated_laws.specs.TouchedNumbers.{comes_to}
use Rattle.headline.specs.SizeExamples.{SizeExamples}

pub size_examples : SizeExamples
unfolding below comes_to digits files_words first_words of_word passed_words second_words
size_examples = record { one = refl; ten = refl; many = refl }
