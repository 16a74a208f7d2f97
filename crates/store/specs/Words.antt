-- Words from the start of bytes.
use Rattle.std.specs.Prelude.{ℕ, List, []}
use Rattle.std.specs.Option.{option_map_or}
use Rattle.base_bytes.specs.Reading.{counted_at, text_at}

-- the words that are counted from the start of some bytes; none where they can't be read
abbrev pub first_words : List ℕ → List (List ℕ)
first_words bytes = option_map_or (λ read. read.0) (counted_at text_at bytes) []
