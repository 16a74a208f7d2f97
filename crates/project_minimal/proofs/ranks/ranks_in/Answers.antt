-- One rank more.
use Rattle.std.proofs.Common.{◌∙◌, ◌++◌, ◌∷◌, ℕ, List, [], cond, filter, get_or, sym, ap}
use Rattle.std.proofs.lemmas.List.Elements.{filter-append}
use Rattle.base.specs.PresentGraph.{below}
use Rattle.base.proofs.Below.{below-more, below-zero}
use Rattle.base_collections.specs.Positions.{has}
use Rattle.project_minimal.proofs.ranks.ranks_in.Goals as goal

pub loop-rank-init : goal.loop-rank-init
loop-rank-init c = c.new-ranks.ensures ∙ sym (ap (filter (λ rank. has c.args.set.now (get_or c.args.order.now rank 0))) below-zero)

pub loop-rank-preserved : goal.loop-rank-preserved
loop-rank-preserved c =
    let test = λ (rank : ℕ). has c.args.set.now (get_or c.args.order.now rank 0) in
    c.in_ok-push_where.ensures
    ∙ ap (λ (ranks : List ℕ). ranks ++ cond c.is_in-is.result (c.loop-rank.rank ∷ []) []) c.loop-rank.invariant
    ∙ ap (λ (is : _). filter test (below c.loop-rank.rank) ++ cond is (c.loop-rank.rank ∷ []) []) c.is_in-is.ensures
    ∙ sym (ap (filter test) (below-more c.loop-rank.rank) ∙ filter-append test (below c.loop-rank.rank) (c.loop-rank.rank ∷ []))
