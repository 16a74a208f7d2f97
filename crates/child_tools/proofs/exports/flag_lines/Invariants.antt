-- What the lines that are left export is found in time.
use Rattle.std.proofs.Common.{◌≡◌, length}
use Rattle.child_lines.specs.Lines.{lines}
use Rattle.vhdl_units.specs.declared.units.UnitKey.{UnitKey}
use Rattle.child_tools.proofs.FlagLemmas.{in_time}
use Rattle.child_tools.proofs.exports.flag_lines.Given as goal

abbrev pub invariant-loop-line : goal.invariant-loop-line
invariant-loop-line l = record {
  library : l.key.library ≡ l.initial.key.library;
  found : (unit : UnitKey) → in_time l.initial.key.library (lines l.rest) l.flags unit ≡ in_time l.initial.key.library (lines l.artefact) l.initial.flags unit;
}

abbrev pub decreases-loop-line : goal.decreases-loop-line
decreases-loop-line l = length l.rest
