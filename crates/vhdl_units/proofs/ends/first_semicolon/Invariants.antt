-- No semicolon so far.
use Rattle.std.proofs.Common.{◌≢◌, ℕ, ◌-◌, ◌<◌, ◌≤◌, length}
use Rattle.base.specs.declared.design.Role.TheVariants.{Semicolon}
use Rattle.vhdl_spec.specs.Units.{role_at}
use Rattle.vhdl_units.proofs.ends.first_semicolon.Given as goal

abbrev pub invariant-loop-at : goal.invariant-loop-at
invariant-loop-at l = record { reaches : l.from ≤ l.at; none : (before : ℕ) → l.from ≤ before → before < l.at → role_at l.roles before ≢ Semicolon }

abbrev pub decreases-loop-at : goal.decreases-loop-at
decreases-loop-at l = length l.roles - l.at
