-- What the loop of `patterns_of` keeps: the patterns of the words so far.
use Rattle.std.proofs.Common.{◌≡◌, map, take}
use Rattle.testbench_select.specs.Patterns.{pattern_parts_of}
use Rattle.project_reading.proofs.query.patterns_of.Given as goal

abbrev pub invariant-loop-i : goal.invariant-loop-i
invariant-loop-i l = l.patterns ≡ map pattern_parts_of (take l.i l.words)
