use Rattle.std.proofs.Common.{◌≡◌, ℕ, get_or, take, ap, arith}
use Rattle.std.specs.Prelude.{sum_by}
use Rattle.std.proofs.lemmas.List.Sums.{sum_by_more_le, sum_by_push}
use Rattle.std.proofs.lemmas.Option.{get_or_from_slice_get}
use Rattle.store_form_2.specs.Nodes.{Node}
use Rattle.store_form_2.specs.Rows.{node_in}
use Rattle.store_form_2.specs.Fits.{blank_node, length_at}
use Rattle.store_form_2.proofs.Filling.{no_answer, taken}
use Rattle.store_form_2.proofs.sums.are_small.Goals as goal

pub returns-then-count-left : goal.returns-then-count-left
returns-then-count-left c =
    let table = c.args.table.now in
    let lengths = c.args.lengths.now in
    let deps = c.args.deps.now in
    let i = c.loop-dep.dep-index in
    let f : ℕ → ℕ = length_at table.nodes lengths in
    let dep : ℕ = get_or deps i 0 in
    let here : f dep ≡ get_or lengths c.row.result.now.text 0 = ap (λ (n : Node). get_or lengths n.text 0) (get_or_from_slice_get table.nodes dep (node_in table c.row.result.now) blank_node c.row.ensures.node) in
    no_answer (λ small. omega (arith, c.loop-dep.invariant, sum_by_more_le f deps i 0 c.loop-dep-test.true, here, c.if-count-left.true, small))

pub loop-dep-preserved : goal.loop-dep-preserved
loop-dep-preserved c =
    let table = c.args.table.now in
    let lengths = c.args.lengths.now in
    let deps = c.args.deps.now in
    let i = c.loop-dep.dep-index in
    let f : ℕ → ℕ = length_at table.nodes lengths in
    let dep : ℕ = get_or deps i 0 in
    let here : f dep ≡ get_or lengths c.row.result.now.text 0 = ap (λ (n : Node). get_or lengths n.text 0) (get_or_from_slice_get table.nodes dep (node_in table c.row.result.now) blank_node c.row.ensures.node) in
    omega (arith, c.loop-dep.invariant, ap (sum_by f) (taken deps i c.loop-dep-test.true), sum_by_push f (take i deps) dep, here, c.if-count-left.false)
