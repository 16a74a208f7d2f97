-- So far the cases of the strings up to the index.
use Rattle.std.proofs.Common.{◌≡◌, map, take}
use Rattle.vhdl_outline.specs.Calls.{string_case}
use Rattle.testbench_scan.proofs.called.called_cases.Given as goal

abbrev pub invariant-loop-string : goal.invariant-loop-string
invariant-loop-string l = l.cases ≡ map (string_case l.file l.text) (take l.string-index l.strings)
