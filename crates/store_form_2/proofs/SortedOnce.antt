-- Two lists in one strict order that have the same items are one list.
use Rattle.std.proofs.Common.{◌≡◌, List, [], ◌∷◌, refl, sym, ap, subst, ◌∙◌, arith, inl, inr, ◌⊎◌}
use Rattle.std.specs.Prelude.{All, AllPairs, Contains}
use Rattle.std.proofs.lemmas.List.Elements.{All-contains}
use Rattle.store_form_2.proofs.Picking.{AllPairs-head, AllPairs-tail}
use Rattle.store_form_2.proofs.Members.{either_first, here_first, there_next}

module _ {X : Type 0} (R : X → X → Type 0) (one_way : (a b : X) → R a b → R b a → ⊥) where
  same_first : (x y : X) (xs ys : List X) → All (R x) xs → All (R y) ys → (y ≡ x) ⊎ Contains ys x → (x ≡ y) ⊎ Contains xs y → x ≡ y
  same_first x y xs ys after_x after_y (inl is) other = sym is
  same_first x y xs ys after_x after_y (inr has_x) (inl is) = is
  same_first x y xs ys after_x after_y (inr has_x) (inr has_y) = absurd (one_way x y (All-contains (R x) xs y after_x has_y) (All-contains (R y) ys x after_y has_x))

  -- in a strict order, an item after the first isn't the first, so it is among the later items of the other list
  rest_has : (x y z : X) (xs ys : List X) → x ≡ y → All (R x) xs → Contains xs z → (y ≡ z) ⊎ Contains ys z → Contains ys z
  rest_has x y z xs ys same after has (inl is) =
      let own : R x x = subst (R x) (sym (same ∙ is)) (All-contains (R x) xs z after has) in
      absurd (one_way x x own own)
  rest_has x y z xs ys same after has (inr found) = found

  pub same_sorted : (xs ys : List X) → AllPairs R xs → AllPairs R ys → ((z : X) → Contains xs z → Contains ys z) → ((z : X) → Contains ys z → Contains xs z) → xs ≡ ys
  same_sorted [] [] p q to back = refl
  same_sorted [] (y ∷ ys) p q to back = absurd (let has = back y (here_first y ys) in omega (arith, has.1))
  same_sorted (x ∷ xs) [] p q to back = absurd (let has = to x (here_first x xs) in omega (arith, has.1))
  same_sorted (x ∷ xs) (y ∷ ys) p q to back =
      let after_x : All (R x) xs = AllPairs-head R x xs p in
      let after_y : All (R y) ys = AllPairs-head R y ys q in
      let first : x ≡ y = same_first x y xs ys after_x after_y (either_first y x ys (to x (here_first x xs))) (either_first x y xs (back y (here_first y ys))) in
      ap (λ (z : X). z ∷ xs) first
      ∙ ap (λ (zs : List X). y ∷ zs) (same_sorted xs ys (AllPairs-tail R x xs p) (AllPairs-tail R y ys q)
      (λ z has. rest_has x y z xs ys first after_x has (either_first y z ys (to z (there_next x z xs has))))
      (λ z has. rest_has y x z ys xs (sym first) after_y has (either_first x z xs (back z (there_next y z ys has)))))
