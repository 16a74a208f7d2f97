use Rattle.std.proofs.Common.{◌≡◌, map, take}
use Rattle.store_form_2.proofs.ranks.numbers_of.Given as goal

abbrev pub invariant-loop-row : goal.invariant-loop-row
invariant-loop-row l = l.numbers ≡ map (λ row. row.row) (take l.row-index l.rows)
