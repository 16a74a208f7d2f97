-- So far each pattern part is a byte.
use Rattle.std.proofs.Common.{◌≡◌, map, take}
use Rattle.testbench_select.specs.declared.pattern.PatternPart.TheVariants.{Byte}
use Rattle.testbench_select.proofs.choosing.plain_name.Given as goal

abbrev pub invariant-loop-pattern_part : goal.invariant-loop-pattern_part
invariant-loop-pattern_part l = take l.pattern_part-index l.pattern ≡ map Byte l.name.items
