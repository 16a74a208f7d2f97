-- What remains to be proved of `closures`.
use Rattle.std.proofs.Common.{arith, ap, sym, subst, ◌∙◌, ◌≡◌, ◌∷◌, [], ◌<◌, ℕ, List, length, get_or}
use Rattle.std.specs.Prelude.{All}
use Rattle.std.proofs.lemmas.List.{get_or_default, length-append}
use Rattle.base_collections.specs.declared.set.PositionSet.{PositionSet}
use Rattle.order.specs.BuildOrder.{deps_in}
use Rattle.order.specs.LinkedGraph.{reaches}
use Rattle.project_graph.specs.Rows.{row_has}
use Rattle.project_graph.proofs.RowSteps.{AreRows, deps_earlier, closure_next}
use Rattle.project_graph.proofs.closures.closures.Goals as goal

-- the dependencies of the file at the rank
deps_are : (c : goal.After-as_slice) → c.as_slice-deps.result.now ≡ deps_in c.args.edges.now (get_or c.args.order.now c.loop-rank.rank 0)
deps_are c =
    let file : get_or c.args.order.now c.loop-rank.rank 0 < length c.args.edges.now = c.requires.order.within c.loop-rank.rank 0 c.loop-rank-test.true in
    c.as_slice-deps.ensures ∙ c.index-edges-order.is ∙ ap (λ (es : List (List ℕ)). get_or es (get_or c.args.order.now c.loop-rank.rank 0) c.index-edges-order.result) c.as_slice-edges.ensures
    ∙ get_or_default c.args.edges.now (get_or c.args.order.now c.loop-rank.rank 0) c.index-edges-order.result [] file

pub closure_row-requires-clause-deps : goal.closure_row-requires-clause-deps
closure_row-requires-clause-deps c =
    let within : All (λ dep. dep < length c.args.edges.now) c.as_slice-deps.result.now = subst (All (λ dep. dep < length c.args.edges.now)) (sym (deps_are c)) (c.requires.are.within (get_or c.args.order.now c.loop-rank.rank 0)) in
    subst (λ (n : ℕ). All (λ dep. dep < n) c.as_slice-deps.result.now) (sym c.requires.ranks.as_many) within

pub closure_row-requires-clause-earlier : goal.closure_row-requires-clause-earlier
closure_row-requires-clause-earlier c =
    let count : length c.as_slice.result.now ≡ c.loop-rank.rank = ap (λ (xs : List PositionSet). length xs) c.as_slice.ensures.value ∙ c.loop-rank.invariant.count in
    subst (λ (n : ℕ). All (λ dep. get_or c.args.ranks.now dep 0 < n) c.as_slice-deps.result.now) (sym count)
    (subst (All (λ dep. get_or c.args.ranks.now dep 0 < c.loop-rank.rank)) (sym (deps_are c)) (deps_earlier c.args.edges.now c.args.order.now c.args.ranks.now c.requires.order c.requires.ranks c.loop-rank.rank c.loop-rank-test.true))

pub loop-rank-preserved : goal.loop-rank-preserved
loop-rank-preserved c =
    let file : get_or c.args.order.now c.loop-rank.rank 0 < length c.args.edges.now = c.requires.order.within c.loop-rank.rank 0 c.loop-rank-test.true in
    let same : c.as_slice-deps.result.now ≡ deps_in c.args.edges.now (get_or c.args.order.now c.loop-rank.rank 0) =
    c.as_slice-deps.ensures ∙ c.index-edges-order.is ∙ ap (λ (es : List (List ℕ)). get_or es (get_or c.args.order.now c.loop-rank.rank 0) c.index-edges-order.result) c.as_slice-edges.ensures
    ∙ get_or_default c.args.edges.now (get_or c.args.order.now c.loop-rank.rank 0) c.index-edges-order.result [] file in
    let back : c.as_slice-edges.result.now ≡ c.args.edges.now = c.as_slice-edges.ensures in
    let so_far : AreRows c.args.edges.now c.args.order.now c.args.ranks.now c.requires.order c.requires.ranks c.loop-rank.rows.items c.loop-rank.rank = λ rank at lt low.
    c.loop-rank.invariant.each rank at lt low ∙ ap (λ (es : List (List ℕ)). reaches es (get_or c.args.order.now rank 0) (get_or c.args.order.now at 0)) back in
    let next = closure_next c.args.edges.now c.args.order.now c.args.ranks.now c.requires.order c.requires.ranks c.loop-rank.rows.items c.as_slice.result.now c.loop-rank.rank c.as_slice-deps.result.now c.closure_row.result c.loop-rank-test.true c.loop-rank.invariant.count so_far
    c.as_slice.ensures.value same c.closure_row.ensures in
    record {
      count = omega (arith, ap (λ (xs : List PositionSet). length xs) c.in_ok-push.ensures.items, length-append c.loop-rank.rows.items (c.closure_row.result ∷ []), c.loop-rank.invariant.count);
      each = λ rank at lt low.
          ap (λ (rows : List PositionSet). row_has rows rank at) c.in_ok-push.ensures.items ∙ next rank at lt low ∙ sym (ap (λ (es : List (List ℕ)). reaches es (get_or c.args.order.now rank 0) (get_or c.args.order.now at 0)) back);
    }

pub returns-clause-rows : goal.returns-clause-rows
returns-clause-rows c rank at lt low =
    c.loop-rank.invariant.each rank at (omega arith) low ∙ ap (λ (es : List (List ℕ)). reaches es (get_or c.args.order.now rank 0) (get_or c.args.order.now at 0)) c.as_slice-edges.ensures
