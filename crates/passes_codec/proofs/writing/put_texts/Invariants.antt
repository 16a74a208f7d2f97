use Rattle.std.proofs.Common.{◌≡◌, ◌++◌, length, take}
use Rattle.std.specs.List.{flat_map}
use Rattle.base.specs.Bytes.{number_bytes, text_bytes}
use Rattle.passes_codec.proofs.writing.put_texts.Given as goal

abbrev pub invariant-loop-text : goal.invariant-loop-text
invariant-loop-text l = l.out ≡ (l.fn.out ++ number_bytes (length l.texts)) ++ flat_map text_bytes (take l.text-index l.texts)
