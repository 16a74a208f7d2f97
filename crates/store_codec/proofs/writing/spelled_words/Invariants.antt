use Rattle.std.proofs.Common.{◌≡◌, ◌++◌, length, take}
use Rattle.std.specs.List.{flat_map}
use Rattle.base.specs.Bytes.{number_bytes, text_bytes}
use Rattle.store_codec.proofs.writing.spelled_words.Given as goal

abbrev pub invariant-loop-word : goal.invariant-loop-word
invariant-loop-word l = l.out ≡ number_bytes (length l.words) ++ flat_map text_bytes (take l.word-index l.words)
