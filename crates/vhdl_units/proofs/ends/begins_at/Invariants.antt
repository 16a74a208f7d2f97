-- What is passed over from the right changes nothing.
use Rattle.std.proofs.Common.{◌≡◌, ◌≤◌}
use Rattle.vhdl_spec.specs.Units.{begins_generate}
use Rattle.vhdl_units.proofs.ends.begins_at.Given as goal

abbrev pub invariant-loop-at : goal.invariant-loop-at
invariant-loop-at l = record { after : l.from ≤ l.at; within : l.at ≤ l.to; same : begins_generate l.roles l.at ≡ begins_generate l.roles l.to }

abbrev pub decreases-loop-at : goal.decreases-loop-at
decreases-loop-at l = l.at
