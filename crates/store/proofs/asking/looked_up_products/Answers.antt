use Rattle.std.proofs.Common.{◌≡◌, ◌<◌, ℕ, List, length, map, Some, sym, ◌∙◌, arith}
use Rattle.std.proofs.lemmas.List.{get_or-map, length-map, same_lists}
use Rattle.store.specs.LookedUp.{looked_up_product}
use Rattle.store.proofs.asking.looked_up_products.Goals as goal

pub returns : goal.returns
returns c =
    let numbers : List ℕ = c.loop-k.numbers in
    let positions : List ℕ = c.args.positions.now in
    let size : length c.loop-k.numbers ≡ length c.args.positions.now = omega (arith, c.loop-k.invariant.size, c.loop-k.invariant.within, c.loop-k-test.false) in
    same_lists (map (λ n. Some n) numbers) (map (looked_up_product c.args.handles.now) positions) (length-map numbers (λ (n : ℕ). Some n) ∙ size ∙ sym (length-map positions (looked_up_product c.args.handles.now))) (λ k d l.
    let a : k < length c.loop-k.numbers = omega (arith, l, length-map c.loop-k.numbers (λ (n : ℕ). Some n)) in
    get_or-map (λ (n : ℕ). Some n) numbers k 0 d a ∙ c.loop-k.invariant.is k (omega (arith, a, c.loop-k.invariant.size)) ∙ sym (get_or-map (looked_up_product c.args.handles.now) positions k 0 d (omega (arith, a, size))))
