use Rattle.std.proofs.Common.{rules, is_lt}
use Rattle.std.proofs.lemmas.List.Sorted.{ranks_by, answers_always}
use Rattle.store_form_2.specs.RankedRows.{row_cmp}
use Rattle.store_form_2.proofs.MigratedRows.{row_total}
use Rattle.store_form_2.proofs.ranks.sort_rows.Goals as goal

pub returns-clause-sorted : goal.returns-clause-sorted
returns-clause-sorted c =
    c.sort_unstable_by.ensures.sorted (λ x y. is_lt (row_cmp x y)) (ranks_by row_total (λ p. p)) (answers_always _ _ _ (λ f a r g h. search rules))
