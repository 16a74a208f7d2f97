use Rattle.passes_codec.proofs.SpelledPasses.{compacted_again, compacted_are, compacted_each, compacted_stand}
use Rattle.passes_codec.proofs.TablePasses.{compacted_numberable, passes_fit}
use Rattle.passes_codec.proofs.laws.laws_of_compacted_passes.Goals as goal

pub returns : goal.returns
returns c = record { sizes = passes_fit; last = compacted_stand; passes = compacted_are; each = compacted_each; again = compacted_again; numbers = compacted_numberable }
