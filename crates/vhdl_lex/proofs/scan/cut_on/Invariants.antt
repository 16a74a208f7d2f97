-- The lexical elements that were read so far.
use Rattle.std.proofs.Common.{◌≡◌, length, ◌-◌, ◌≤◌}
use Rattle.vhdl_spec.specs.Units.{roles_of}
use Rattle.vhdl_lex.specs.Reading.{Read}
use Rattle.vhdl_lex.proofs.scan.cut_on.Given as goal

abbrev pub invariant-loop-at : goal.invariant-loop-at
invariant-loop-at l = record {
  ordered : l.from ≤ l.at;
  read : Read l.text l.list.items l.comments.items l.at;
  roles : l.roles.items ≡ roles_of l.text l.list.items;
}

abbrev pub decreases-loop-at : goal.decreases-loop-at
decreases-loop-at l = length l.text - l.at
