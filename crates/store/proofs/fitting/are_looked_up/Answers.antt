use Rattle.std.proofs.Common.{◌≡◌, ◌<◌, ℕ, List, length, map, get_or, None, Some, Option, true≢false, refl, sym, ap, ◌∙◌, arith}
use Rattle.std.proofs.lemmas.List.{get_or-map, length-map, same_lists}
use Rattle.store.specs.LookedUp.{looked_up_product}
use Rattle.store.proofs.fitting.are_looked_up.Goals as goal

pub returns-then-not-is_looked_up : goal.returns-then-not-is_looked_up
returns-then-not-is_looked_up c =
    let numbers : List ℕ = c.args.numbers.now in
    let positions : List ℕ = c.args.positions.now in
    let k : ℕ = c.loop-k.k in (
      λ f. absurd cc,
      λ e.
          let a : c.loop-k.k < length c.args.numbers.now = omega (arith, c.loop-k-test.true, c.len.ensures, c.if-len-positions.false) in
          let here : Some (get_or numbers k 0) ≡ looked_up_product c.args.handles.now (get_or positions k 0) = sym (get_or-map (λ (n : ℕ). Some n) numbers k 0 None a) ∙ ap (λ (os : List (Option ℕ)). get_or os k None) e ∙ get_or-map (looked_up_product c.args.handles.now) positions k 0 None c.loop-k-test.true in
          absurd (true≢false (sym (c.is_looked_up.ensures.1 (ap (λ (n : ℕ). Some n) c.get.ensures ∙ here)) ∙ c.if-not-is_looked_up.true)),
    )

pub returns : goal.returns
returns c =
    let numbers : List ℕ = c.args.numbers.now in
    let positions : List ℕ = c.args.positions.now in
    let size : length c.args.numbers.now ≡ length c.args.positions.now = omega (arith, c.len.ensures, c.if-len-positions.false) in (
      λ t. same_lists (map (λ n. Some n) numbers) (map (looked_up_product c.args.handles.now) positions) (length-map numbers (λ (n : ℕ). Some n) ∙ size ∙ sym (length-map positions (looked_up_product c.args.handles.now))) (λ k d l.
          let a : k < length c.args.numbers.now = omega (arith, l, length-map c.args.numbers.now (λ (n : ℕ). Some n)) in
          get_or-map (λ (n : ℕ). Some n) numbers k 0 d a ∙ c.loop-k.invariant k (omega (arith, a, size, c.loop-k-test.false)) ∙ sym (get_or-map (looked_up_product c.args.handles.now) positions k 0 d (omega (arith, a, size)))),
      λ e. refl,
    )
