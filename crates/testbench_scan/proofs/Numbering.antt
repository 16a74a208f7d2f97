-- The numbers of units, file by file.
use Rattle.std.proofs.Common.{◌≡◌, ℕ, zero, suc, ◌+◌, ◌<◌, List, [], ◌∷◌, ◌++◌, append-nil, map, sym, ◌∙◌, ap, subst, arith}
use Rattle.std.specs.List.{All, flat_map}
use Rattle.std.proofs.lemmas.List.{map-append}
use Rattle.std.proofs.lemmas.List.Concat.{flat_map-append}
use Rattle.std.proofs.lemmas.List.Elements.{All-append, All-nil, All-cons}
use Rattle.base.proofs.Below.{below-zero, below-more}
use Rattle.base.specs.PresentGraph.{below}

pub no_numbers : {X : Type 0} (f : ℕ → X) → map f (below 0) ≡ []
no_numbers f = ap (map f) below-zero

pub numbers_more : {X : Type 0} (f : ℕ → X) (n : ℕ) → map f (below (n + 1)) ≡ map f (below n) ++ f n ∷ []
numbers_more f n = ap (map f) (below-more n) ∙ map-append f (below n) (n ∷ [])

pub no_parts : {X : Type 0} (f : ℕ → List X) → flat_map f (below 0) ≡ []
no_parts f = ap (flat_map f) below-zero

pub parts_more : {X : Type 0} (f : ℕ → List X) (n : ℕ) → flat_map f (below (n + 1)) ≡ flat_map f (below n) ++ f n
parts_more {X} f n = ap (flat_map f) (below-more n) ∙ flat_map-append f (below n) (n ∷ []) ∙ ap (λ (xs : List X). flat_map f (below n) ++ xs) (append-nil (f n))

-- what holds of each number below another
pub each_number : {X : Type 0} (P : X → Type 0) (f : ℕ → X) (n : ℕ) → ((k : ℕ) → k < n → P (f k)) → All P (map f (below n))
each_number P f zero each = subst (All P) (sym (no_numbers f)) (All-nil P)
each_number P f (suc n) each =
    let more : map f (below (suc n)) ≡ map f (below n) ++ f n ∷ [] = subst (λ (k : ℕ). map f (below k) ≡ map f (below n) ++ f n ∷ []) (omega arith) (numbers_more f n) in
    subst (All P) (sym more) (All-append P (map f (below n)) (f n ∷ []) (each_number P f n (λ k lt. each k (omega arith))) (All-cons P (f n) [] (each n (omega arith)) (All-nil P)))
