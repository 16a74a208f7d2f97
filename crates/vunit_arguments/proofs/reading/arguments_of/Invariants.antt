use Rattle.std.proofs.Common.{◌≡◌, true, map, take}
use Rattle.std.specs.List.{list_all}
use Rattle.std.specs.Str.{is_utf8}
use Rattle.vunit_arguments.proofs.reading.arguments_of.Given as goal

abbrev pub invariant-loop-word : goal.invariant-loop-word
invariant-loop-word l = (list_all is_utf8 (take l.word-index l.arguments) ≡ true) × (map (λ word. word.now) l.read.items ≡ take l.word-index l.arguments)
