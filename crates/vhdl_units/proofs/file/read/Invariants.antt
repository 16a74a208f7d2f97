-- The elements that were read so far.
use Rattle.std.proofs.Common.{◌≡◌, length, ◌-◌}
use Rattle.vhdl_spec.specs.Units.{roles_of}
use Rattle.vhdl_units.proofs.Adding.{Outlined}
use Rattle.vhdl_units.proofs.file.read.Given as goal

abbrev pub invariant-loop-at : goal.invariant-loop-at
invariant-loop-at l = record { roles_are : l.roles ≡ roles_of l.text l.tokens; outlined : Outlined l.text l.tokens l.units.items l.begins l.lead l.at }

abbrev pub decreases-loop-at : goal.decreases-loop-at
decreases-loop-at l = length l.roles - l.at
