-- Walks over two lists side by side, and the bytes of values.
use Rattle.std.proofs.Common.{◌≡◌, ℕ, ◌+◌, ◌<◌, ◌≤◌, min, List, [], ◌∷◌, ◌++◌, length, get_or, take, drop, sym, ap, ◌∙◌, arith}
use Rattle.std.specs.Prelude.{zip}
use Rattle.std.proofs.Math.Nat.{min-le_left, min-le_right}
use Rattle.std.specs.List.{flat_map}
use Rattle.std.proofs.lemmas.List.{append-nil, append_assoc, drop_all, drop_more, flat_map_more, take_all, take_more}
use Rattle.std.proofs.lemmas.Slice.Zip.{length-zip, get_or-zip}
use Rattle.report.specs.Junit.{value_after, value_byte}

module _ {X Y : Type 0} (f : X × Y → List ℕ) (xs : List X) (ys : List Y) (i count : ℕ) (count_is : count ≡ min (length xs) (length ys)) where
  -- a pair more
  pub pair_put : (x : X) (y d : Y) (old out next : List ℕ) → i < count → x ≡ get_or xs i x → y ≡ get_or ys i d
      → out ≡ old ++ flat_map f (take i (zip xs ys)) → next ≡ out ++ f (x, y) → next ≡ old ++ flat_map f (take (i + 1) (zip xs ys))
  pair_put x y d old out next within x_is y_is so_far put =
      let pairs : List (X × Y) = zip xs ys in
      let long : length pairs ≡ count = length-zip xs ys ∙ sym count_is in
      let left : i < length xs = omega (arith, within, count_is, min-le_left (length xs) (length ys)) in
      let right : i < length ys = omega (arith, within, count_is, min-le_right (length xs) (length ys)) in
      let pair : get_or pairs i (x, d) ≡ (x, y) = get_or-zip xs ys i (x, d) left right ∙ ap (λ (a : X). (a, get_or ys i d)) (sym x_is) ∙ ap (λ (b : Y). (x, b)) (sym y_is) in
      let more : take (i + 1) pairs ≡ take i pairs ++ (x, y) ∷ [] = take_more pairs i (x, d) (omega (arith, within, long)) ∙ ap (λ (p : X × Y). take i pairs ++ p ∷ []) pair in
      put ∙ ap (λ (o : List ℕ). o ++ f (x, y)) so_far ∙ flat_map_more f old (take i pairs) (x, y) ∙ ap (λ (t : List (X × Y)). old ++ flat_map f t) (sym more)

  -- no pair is left
  pub pairs_end : (old out : List ℕ) → count ≤ i → out ≡ old ++ flat_map f (take i (zip xs ys)) → out ≡ old ++ flat_map f (zip xs ys)
  pairs_end old out end so_far =
      let long : length (zip xs ys) ≡ count = length-zip xs ys ∙ sym count_is in
      so_far ∙ ap (λ (t : List (X × Y)). old ++ flat_map f t) (take_all i (zip xs ys) (omega (arith, end, long)))

-- a byte more of a value
pub byte_put : (name : List ℕ) (i first second : ℕ) (out next whole : List ℕ) → i < length name → next ≡ out ++ value_byte first second (get_or name i 0)
    → out ++ value_after first second (drop i name) ≡ whole → next ++ value_after second (get_or name i 0) (drop (i + 1) name) ≡ whole
unfolding value_after
byte_put name i first second out next whole within put so_far =
    let byte : ℕ = get_or name i 0 in
    let rest : List ℕ = value_after second byte (drop (i + 1) name) in
    ap (λ (o : List ℕ). o ++ rest) put ∙ append_assoc out (value_byte first second byte) rest
    ∙ ap (λ (l : List ℕ). out ++ value_after first second l) (sym (drop_more name i 0 within)) ∙ so_far

-- no byte is left
pub value_end : (name : List ℕ) (i first second : ℕ) (out whole : List ℕ) → length name ≤ i → out ++ value_after first second (drop i name) ≡ whole → out ≡ whole
unfolding value_after
value_end name i first second out whole end so_far =
    sym (append-nil out) ∙ ap (λ (l : List ℕ). out ++ value_after first second l) (sym (drop_all i name end)) ∙ so_far
