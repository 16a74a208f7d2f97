-- The rows so far are those of the units of the first files. In the second loop, the rows of the groups so far follow them.
use Rattle.std.proofs.Common.{◌≡◌, [], ◌++◌, length, map, replicate, take}
use Rattle.std.specs.List.{AllZip}
use Rattle.vhdl_outline.specs.Outlines.{file_scopes}
use Rattle.vhdl_scope.specs.Names.{implicit, keys_of}
use Rattle.vhdl_scope.specs.Graph.{IsRowOf}
use Rattle.vhdl_scope.proofs.own.rows_of.Given as goal

abbrev pub invariant-loop-file : goal.invariant-loop-file
invariant-loop-file l = record {
  room : length l.room ≡ l.words;
  rows : AllZip (IsRowOf (keys_of l.names) l.words) l.rows.items (map (λ unit. implicit ++ unit.names) (file_scopes (take l.file-index l.files)));
}

abbrev pub invariant-loop : goal.invariant-loop
invariant-loop l = record {
  room : length l.room ≡ l.words;
  rows : AllZip (IsRowOf (keys_of l.names) l.words) l.rows.items (map (λ unit. implicit ++ unit.names) (file_scopes l.files) ++ replicate l.counter (implicit ++ []));
}
