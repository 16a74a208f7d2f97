-- The words of subprograms so far.
use Rattle.std.proofs.Common.{◌≡◌, take}
use Rattle.std.specs.List.{list_any}
use Rattle.vhdl_units.specs.Delimiters.{is_subprogram_word}
use Rattle.vhdl_units.proofs.delimiters.has_subprogram.Given as goal

abbrev pub invariant-loop-role : goal.invariant-loop-role
invariant-loop-role l = l.found ≡ list_any is_subprogram_word (take l.role-index l.roles)
