use Rattle.std.proofs.Common.{◌≡◌, map, take}
use Rattle.std.specs.Prelude.{All}
use Rattle.store_form_2.specs.RankedRows.{IsRankOf}
use Rattle.store_form_2.proofs.ranks.ranked_rows.Given as goal

abbrev pub invariant-loop-row : goal.invariant-loop-row
invariant-loop-row l = (map (λ row. row.row) l.ranked.items ≡ take l.row-index l.rows) × All (IsRankOf l.table.nodes l.nodes) l.ranked.items
