use Rattle.std.proofs.Common.{◌≡◌, ◌+◌, ◌-◌, ◌<◌, ℕ, List, true≢false, length, get_or, ap, subst, ◌∙◌, sym, arith}
use Rattle.std.specs.Prelude.{All}
use Rattle.store_form_2.specs.Fitting.{IsListed}
use Rattle.base_collections.specs.Numbers.{NumbersBelow}
use Rattle.store_form_2.specs.Rows.{node_in}
use Rattle.store_form_2.specs.Fits.{deps_at}
use Rattle.store_form_2.proofs.Filling.{no_answer, yes_answer}
use Rattle.store_form_2.proofs.Listed.{all_done, inner_low, is_in, passed_over, row_deps, tested}
use Rattle.store_form_2.proofs.listing.are_listed.Goals as goal

pub loop-left-preserved-then-is_some : goal.loop-left-preserved-then-is_some
loop-left-preserved-then-is_some c =
    let nodes = c.args.table.now.nodes in
    let deps = c.args.deps.now in
    let left = c.loop-left.left in
    let has = is_in c.loop-left.covered.numbers (get_or deps (left - 1) 0) c.index_of.result c.index_of.ensures (sym c.is_some.ensures ∙ c.if-is_some.true) in
    let next : left - 1 + 1 ≡ left = omega (arith, c.loop-left-test.true) in (
      omega (arith, c.loop-left.invariant.0),
      c.loop-left.invariant.1,
      c.loop-left.invariant.2,
      passed_over nodes deps c.loop-left.covered.numbers left (left - 1) next c.loop-left.invariant.0 c.requires.nodes c.requires.there c.requires.once has c.loop-left.invariant.3,
    )

pub is_listed-requires-clause-deps : goal.is_listed-requires-clause-deps
is_listed-requires-clause-deps c =
    let nodes = c.args.table.now.nodes in
    let deps = c.args.deps.now in
    let at : ℕ = c.loop-left.left - 1 in
    let low : get_or deps at 0 < length nodes = c.requires.there at 0 (omega (arith, c.loop-left.invariant.0, c.loop-left-test.true)) in
    let size : c.fill.new.set.size ≡ c.args.set.now.size = ap (λ (s : NumbersBelow). s.size) c.loop-left.invariant.1 in
    let same : deps_at nodes (get_or deps at 0) ≡ c.as_slice.result.now = row_deps nodes (get_or deps at 0) (node_in c.args.table.now c.row.result.now) c.row.ensures.node ∙ sym c.as_slice.ensures in
    subst (All (λ (dep : ℕ). dep < c.fill.new.set.size)) same (inner_low nodes (get_or deps at 0) c.fill.new.set.size c.requires.nodes low (omega (arith, size, c.requires.set)))

pub is_listed-requires-clause-covered : goal.is_listed-requires-clause-covered
is_listed-requires-clause-covered c =
    let nodes = c.args.table.now.nodes in
    let deps = c.args.deps.now in
    let at : ℕ = c.loop-left.left - 1 in
    let low : get_or deps at 0 < length nodes = c.requires.there at 0 (omega (arith, c.loop-left.invariant.0, c.loop-left-test.true)) in
    let same : deps_at nodes (get_or deps at 0) ≡ c.as_slice.result.now = row_deps nodes (get_or deps at 0) (node_in c.args.table.now c.row.result.now) c.row.ensures.node ∙ sym c.as_slice.ensures in
    subst (All (λ (dep : ℕ). dep < c.loop-left.covered.size)) same (inner_low nodes (get_or deps at 0) c.loop-left.covered.size c.requires.nodes low (omega (arith, c.loop-left.invariant.2, c.requires.covered)))

pub returns-then-not-listed : goal.returns-then-not-listed
returns-then-not-listed c =
    let nodes = c.args.table.now.nodes in
    let deps = c.args.deps.now in
    let at : ℕ = c.loop-left.left - 1 in
    let same : deps_at nodes (get_or deps at 0) ≡ c.as_slice.result.now = row_deps nodes (get_or deps at 0) (node_in c.args.table.now c.row.result.now) c.row.ensures.node ∙ sym c.as_slice.ensures in
    let set : c.fill.new.set.numbers ≡ deps = ap (λ (s : NumbersBelow). s.numbers) c.loop-left.invariant.1 in
    no_answer (λ all.
    let here : IsListed deps at (deps_at nodes (get_or deps at 0)) = all at (omega (arith, c.loop-left.invariant.0, c.loop-left-test.true)) in
    let there : IsListed c.fill.new.set.numbers at c.as_slice.result.now = subst (λ (ns : List ℕ). IsListed ns at c.as_slice.result.now) (sym set) (subst (IsListed deps at) same here) in
    true≢false (sym (c.in_ok-listed.ensures.listed.1 there) ∙ c.if-not-listed.true))

pub loop-left-preserved : goal.loop-left-preserved
loop-left-preserved c =
    let nodes = c.args.table.now.nodes in
    let deps = c.args.deps.now in
    let left = c.loop-left.left in
    let at : ℕ = left - 1 in
    let same : deps_at nodes (get_or deps at 0) ≡ c.as_slice.result.now = row_deps nodes (get_or deps at 0) (node_in c.args.table.now c.row.result.now) c.row.ensures.node ∙ sym c.as_slice.ensures in
    let set : c.fill.new.set.numbers ≡ deps = ap (λ (s : NumbersBelow). s.numbers) c.loop-left.invariant.1 in
    let listed : IsListed deps at c.as_slice.result.now = subst (λ (ns : List ℕ). IsListed ns at c.as_slice.result.now) set (c.in_ok-listed.ensures.listed.0 c.if-not-listed.false) in
    let next : at + 1 ≡ left = omega (arith, c.loop-left-test.true) in (
      omega (arith, c.loop-left.invariant.0),
      c.loop-left.invariant.1,
      c.in_ok-listed.ensures.size ∙ c.loop-left.invariant.2,
      tested nodes deps c.loop-left.covered.numbers c.is_listed.new.covered.numbers left at c.as_slice.result.now next c.loop-left.invariant.0 same listed c.in_ok-listed.ensures.covers c.loop-left.invariant.3,
    )

pub returns : goal.returns
returns c = let e : c.loop-left.left ≡ 0 = omega (arith, c.loop-left-test.false) in yes_answer (all_done c.args.table.now.nodes c.args.deps.now c.loop-left.covered.numbers c.loop-left.left e c.loop-left.invariant.3)
