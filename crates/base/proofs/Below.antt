-- The numbers below n, rising.
use Rattle.std.proofs.Common.{◌≡◌, ℕ, zero, suc, ◌+◌, ◌<◌, ◌≤◌, List, map, [], ◌∷◌, ◌++◌, length, get_or, take, Option, Some, refl, sym, ap, ◌∙◌, arith, inl, inr, add-one}
use Rattle.std.specs.Prelude.{slice_get}
use Rattle.std.specs.List.{filter_map}
use Rattle.std.proofs.lemmas.Bool.{cases_lt}
use Rattle.std.proofs.lemmas.List.{get_or_append_left, get_or_at, map_push, length-append, take_more}
use Rattle.std.proofs.lemmas.List.Elements.{filter_map-append}
use Rattle.std.proofs.lemmas.Option.{slice_get-get_or}
use Rattle.base.specs.PresentGraph.{below}

pub below-zero : below 0 ≡ []
unfolding below
below-zero = refl

pub below-more : (n : ℕ) → below (n + 1) ≡ below n ++ n ∷ []
unfolding below
below-more n = rw add-one refl

pub length-below : (n : ℕ) → length (below n) ≡ n
unfolding below
length-below zero = refl
length-below (suc n) = rw (length-append, length-below n) (omega arith)

-- the items of a list, by their positions
pub filter_map-below : {X : Type 0} (f : ℕ → Option X) (xs : List X) (n : ℕ) → n ≤ length xs → ((k : ℕ) → f k ≡ slice_get xs k) → filter_map f (below n) ≡ take n xs
unfolding below
filter_map-below f xs zero le h = refl
filter_map-below {X} f [] (suc n) le h = absurd (omega arith)
filter_map-below {X} f (x ∷ xs) (suc n) le h =
    let at : f n ≡ Some (get_or (x ∷ xs) n x) = h n ∙ slice_get-get_or (x ∷ xs) n x (omega arith) in
    let more : take (suc n) (x ∷ xs) ≡ take n (x ∷ xs) ++ get_or (x ∷ xs) n x ∷ [] = rw add-one at (take_more (x ∷ xs) n x (omega arith)) in
    let last : filter_map f (n ∷ []) ≡ get_or (x ∷ xs) n x ∷ [] = rw at refl in
    filter_map-append f (below n) (n ∷ []) ∙ ap (λ (ys : List X). filter_map f (below n) ++ ys) last ∙ ap (λ (ys : List X). ys ++ get_or (x ∷ xs) n x ∷ []) (filter_map-below f (x ∷ xs) n (omega arith) h) ∙ sym more

-- a function of the positions, by the items of a list
pub map-below_is : {X : Type 0} (f : ℕ → X) (xs : List X) (n : ℕ) → n ≤ length xs → ((k : ℕ) (d : X) → k < n → get_or xs k d ≡ f k) → map f (below n) ≡ take n xs
unfolding below
map-below_is f xs zero le h = refl
map-below_is {X} f [] (suc n) le h = absurd (omega arith)
map-below_is {X} f (x ∷ xs) (suc n) le h =
    let more : take (suc n) (x ∷ xs) ≡ take n (x ∷ xs) ++ get_or (x ∷ xs) n x ∷ [] = rw add-one at (take_more (x ∷ xs) n x (omega arith)) in
    map_push f (below n) n ∙ ap (λ (ys : List X). ys ++ f n ∷ []) (map-below_is f (x ∷ xs) n (omega arith) (λ k d lt. h k d (omega arith)))
    ∙ ap (λ (y : X). take n (x ∷ xs) ++ y ∷ []) (sym (h n x (omega arith))) ∙ sym more

-- the number at a position
pub get_or-below : (n k d : ℕ) → k < n → get_or (below n) k d ≡ k
unfolding below
get_or-below zero k d lt = absurd (omega arith)
get_or-below (suc n) k d lt =
    elim (cases_lt k n) [
      | inl l ↦ get_or_append_left (below n) (n ∷ []) d k (omega (arith, length-below n)) ∙ get_or-below n k d l
      | inr l ↦ let same : k ≡ n = omega arith in ap (λ (j : ℕ). get_or (below n ++ n ∷ []) j d) same ∙ get_or_at (below n) n [] d n (length-below n) ∙ sym same
    ]
