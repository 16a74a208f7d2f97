-- So far the units up to the index have rows.
use Rattle.std.proofs.Common.{◌≡◌, ℕ, List, ◌++◌, length, map, take}
use Rattle.std.specs.List.{AllZip}
use Rattle.vhdl_scope.specs.Names.{implicit, keys_of}
use Rattle.vhdl_scope.specs.Graph.{IsRowOf}
use Rattle.vhdl_scope.proofs.own.push_rows.Given as goal

abbrev pub invariant-loop-unit : goal.invariant-loop-unit
invariant-loop-unit l = record {
  room : length l.room ≡ length l.initial.room;
  rows : (before : List (List (List ℕ))) → AllZip (IsRowOf (keys_of l.names) (length l.initial.room)) l.initial.rows.items before → AllZip (IsRowOf (keys_of l.names) (length l.initial.room)) l.rows.items (before ++ map (λ unit. implicit ++ unit.names) (take l.unit-index l.units));
}
