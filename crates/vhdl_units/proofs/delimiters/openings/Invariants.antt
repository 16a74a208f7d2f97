-- The opening parentheses so far.
use Rattle.std.proofs.Common.{◌≡◌, ◌≤◌, count_by, take}
use Rattle.vhdl_spec.specs.Units.{is_opening}
use Rattle.vhdl_units.proofs.delimiters.openings.Given as goal

abbrev pub invariant-loop-role : goal.invariant-loop-role
invariant-loop-role l = record { counted : l.count ≡ count_by is_opening (take l.role-index l.roles); few : l.count ≤ l.role-index }
