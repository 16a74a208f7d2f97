-- A walk over the tokens of a text: one place more, and indices that fail a test are passed over.
use Rattle.std.proofs.Common.{◌≡◌, ℕ, zero, suc, ◌+◌, ◌-◌, ◌<◌, ◌≤◌, Bool, true, false, cond, List, [], ◌∷◌, ◌++◌, Option, Some, None, map, filter, refl, sym, ◌∙◌, ap, append_assoc, append-nil, arith}
use Rattle.std.specs.List.{range_with_len, find}
use Rattle.std.proofs.lemmas.List.{map-append}
use Rattle.std.proofs.lemmas.List.Elements.{filter-append}
use Rattle.std.proofs.lemmas.List.Folds.{find-append}
use Rattle.std.specs.Option.{option_or}
use Rattle.vhdl_spec.specs.References.{indices}

range_more : (start n at : ℕ) → start + n ≡ at → range_with_len start (suc n) ≡ range_with_len start n ++ at ∷ []
range_more start zero at is = let same : start ≡ at = omega arith in ap (λ (k : ℕ). k ∷ []) same
range_more start (suc n) at is = ap (λ (rest : List ℕ). start ∷ rest) (range_more (start + 1) n at (omega arith))

range_up_to : (start at : ℕ) → start ≤ at → range_with_len start (at + 1 - start) ≡ range_with_len start (at - start) ++ at ∷ []
range_up_to start at ordered =
    let more : at + 1 - start ≡ suc (at - start) = omega arith in
    ap (range_with_len start) more ∙ range_more start (at - start) at (omega arith)

range_none : (start : ℕ) → range_with_len start (start - start) ≡ []
range_none start = let none : start - start ≡ 0 = omega arith in ap (range_with_len start) none

pub indices_none : (test : ℕ → Bool) (start : ℕ) → indices test start start ≡ []
indices_none test start = ap (filter test) (range_none start)

pub indices_more : (test : ℕ → Bool) (start at : ℕ) → start ≤ at → indices test start (at + 1) ≡ indices test start at ++ cond (test at) (at ∷ []) []
indices_more test start at ordered = ap (filter test) (range_up_to start at ordered) ∙ filter-append test (range_with_len start (at - start)) (at ∷ [])

map_cond : {X : Type 0} (f : ℕ → X) (test : Bool) (at : ℕ) → map f (cond test (at ∷ []) []) ≡ cond test (f at ∷ []) []
map_cond f true at = refl
map_cond f false at = refl

-- what a walk over indices has found after one place more
pub walk_more : {X : Type 0} (f : ℕ → X) (test : ℕ → Bool) (start at : ℕ) (done items more : List X) → start ≤ at → items ≡ done ++ map f (indices test start at) → more ≡ items ++ cond (test at) (f at ∷ []) [] → more ≡ done ++ map f (indices test start (at + 1))
walk_more {X} f test start at done items more ordered so_far adds =
    let longer : map f (indices test start (at + 1)) ≡ map f (indices test start at) ++ cond (test at) (f at ∷ []) [] = ap (map f) (indices_more test start at ordered) ∙ map-append f (indices test start at) (cond (test at) (at ∷ []) []) ∙ ap (λ (xs : List X). map f (indices test start at) ++ xs) (map_cond f (test at) at) in
    adds ∙ ap (λ (xs : List X). xs ++ cond (test at) (f at ∷ []) []) so_far ∙ append_assoc done (map f (indices test start at)) (cond (test at) (f at ∷ []) []) ∙ ap (λ (xs : List X). done ++ xs) (sym longer)

-- indices that fail a test may be passed over
skip_some : (test : ℕ → Bool) (start at n : ℕ) → start ≤ at → ((k : ℕ) → at ≤ k → k < at + n → test k ≡ false) → indices test start (at + n) ≡ indices test start at
skip_some test start at zero ordered none = let same : at + 0 ≡ at = omega arith in ap (indices test start) same
skip_some test start at (suc n) ordered none =
    let is : at + suc n ≡ (at + n) + 1 = omega arith in
    let last : test (at + n) ≡ false = none (at + n) (omega arith) (omega arith) in
    ap (indices test start) is ∙ indices_more test start (at + n) (omega (arith, ordered))
    ∙ ap (λ (b : Bool). indices test start (at + n) ++ cond b ((at + n) ∷ []) []) last
    ∙ append-nil (indices test start (at + n))
    ∙ skip_some test start at n ordered (λ k reach below. none k reach (omega (arith, below)))

pub indices_skip : (test : ℕ → Bool) (start at next : ℕ) → start ≤ at → at ≤ next → ((k : ℕ) → at ≤ k → k < next → test k ≡ false) → indices test start next ≡ indices test start at
indices_skip test start at next ordered later none =
    let is : next ≡ at + (next - at) = omega (arith, later) in
    ap (indices test start) is ∙ skip_some test start at (next - at) ordered (λ k reach below. none k reach (omega (arith, later, below)))

-- ## The first place

first_later : (test : ℕ → Bool) (start n m found : ℕ) → find test (range_with_len start n) ≡ Some found → n ≤ m → find test (range_with_len start m) ≡ Some found
first_later test start zero m found is within = let no : ⊥ = cc in absurd no
first_later test start (suc n) zero found is within = absurd (omega arith)
first_later test start (suc n) (suc m) found is within =
    elim (test start) as (λ b. cond b (Some start) (find test (range_with_len (start + 1) n)) ≡ Some found → cond b (Some start) (find test (range_with_len (start + 1) m)) ≡ Some found) [ true ↦ λ here. here | false ↦ λ later. first_later test (start + 1) n m found later (omega arith) ] is

find_more : (test : ℕ → Bool) (start at : ℕ) → start ≤ at → find test (range_with_len start (at + 1 - start)) ≡ option_or (find test (range_with_len start (at - start))) (cond (test at) (Some at) None)
find_more test start at ordered = ap (find test) (range_up_to start at ordered) ∙ find-append test (range_with_len start (at - start)) (at ∷ [])

pub first_none : (test : ℕ → Bool) (start : ℕ) → find test (range_with_len start (start - start)) ≡ None
first_none test start = ap (find test) (range_none start)

-- not so far, and not here
pub first_not_yet : (test : ℕ → Bool) (start at : ℕ) → start ≤ at → find test (range_with_len start (at - start)) ≡ None → test at ≡ false → find test (range_with_len start (at + 1 - start)) ≡ None
first_not_yet test start at ordered none fails =
    find_more test start at ordered ∙ ap (λ (found : Option ℕ). option_or found (cond (test at) (Some at) None)) none ∙ ap (λ (b : Bool). cond b (Some at) None) fails

-- not so far, but here
pub first_here : (test : ℕ → Bool) (start at end : ℕ) → start ≤ at → at < end → find test (range_with_len start (at - start)) ≡ None → test at ≡ true → find test (range_with_len start (end - start)) ≡ Some at
first_here test start at end ordered within none passes =
    first_later test start (at + 1 - start) (end - start) at (find_more test start at ordered ∙ ap (λ (found : Option ℕ). option_or found (cond (test at) (Some at) None)) none ∙ ap (λ (b : Bool). cond b (Some at) None) passes) (omega arith)
