-- The list of tickets after one is removed.
use Rattle.std.proofs.Common.{ℕ, zero, suc, ◌+◌, ◌≡◌, ◌<◌, ◌≤◌, true, false, cond, List, [], ◌∷◌, ◌++◌, length, take, drop, get_or, ap, arith, ◌∙◌, length-append}
use Rattle.std.specs.Prelude.{Contains, ◌==◌}
use Rattle.std.proofs.lemmas.Bool.{eq-eqb}
use Rattle.std.proofs.lemmas.List.{take_all}
use Rattle.outside.specs.Children.{without}

-- taking out a ticket that is there makes the list one shorter
length-without : (ticket : ℕ) (xs : List ℕ) (k : ℕ) → k < length xs → get_or xs k ticket ≡ ticket → length (without ticket xs) + 1 ≡ length xs
length-without ticket [] k below is = absurd (omega arith)
length-without ticket (x ∷ xs) zero below is = rw (eq-eqb x ticket is) (omega arith)
length-without ticket (x ∷ xs) (suc k) below is =
    let shorter : length (without ticket xs) + 1 ≡ length xs = length-without ticket xs k (omega arith) is in
    elim (x == ticket) as (λ b. length (cond b xs (x ∷ without ticket xs)) + 1 ≡ suc (length xs)) [ true ↦ omega arith | false ↦ omega arith ]

-- a walk that passed all of them has met a ticket that is there
pub passed_none : (ticket : ℕ) (xs : List ℕ) (i : ℕ) → Contains xs ticket → length xs ≤ i → without ticket xs ≡ take i xs ++ without ticket (drop i xs) → ⊥
passed_none ticket xs i there all passed =
    let shorter : length (without ticket xs) + 1 ≡ length xs = length-without ticket xs there.0 there.1 there.2 in
    let kept : length (take i xs) ≡ length xs = ap length (take_all i xs all) in
    let longer : length (without ticket xs) ≡ length (take i xs) + length (without ticket (drop i xs)) = ap length passed ∙ length-append (take i xs) (without ticket (drop i xs)) in
    omega (arith, shorter, kept, longer)
