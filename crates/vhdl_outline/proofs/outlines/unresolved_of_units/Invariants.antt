-- What the units up to the number mention.
use Rattle.std.proofs.Common.{◌≡◌, ℕ, Some, length}
use Rattle.std.specs.Prelude.{slice_get}
use Rattle.std.specs.List.{All}
use Rattle.base.specs.declared.design.Unit.{Unit as DesignUnit}
use Rattle.vhdl_outline.specs.declared.unresolved.UnresolvedRefs.{UnresolvedRefs}
use Rattle.vhdl_outline.specs.UnresolvedRefs.{AreUnresolvedRefsOf, UnresolvedRefsLieIn}
use Rattle.vhdl_outline.proofs.outlines.unresolved_of_units.Given as goal

abbrev pub invariant-loop-number : goal.invariant-loop-number
invariant-loop-number l = record {
  each : length l.all.items ≡ l.number;
  are : (number : ℕ) (unit : DesignUnit) (one : UnresolvedRefs) → slice_get l.scan.units number ≡ Some unit → slice_get l.all.items number ≡ Some one → AreUnresolvedRefsOf l.text l.scan.tokens.list unit one;
  lie : All (UnresolvedRefsLieIn l.text) l.all.items;
}
