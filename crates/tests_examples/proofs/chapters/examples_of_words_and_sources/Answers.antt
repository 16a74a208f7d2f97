-- Answers to the goals of `examples_of_words_and_sources`.
use Rattle.tests_examples.proofs.WordsAndSources.{settings_of_words, read_sources}
use Rattle.tests_examples.proofs.chapters.examples_of_words_and_sources.Goals as goal

pub returns-clause-settings_of_words : goal.returns-clause-settings_of_words
returns-clause-settings_of_words c = settings_of_words

pub returns-clause-read_sources : goal.returns-clause-read_sources
returns-clause-read_sources c = read_sources
