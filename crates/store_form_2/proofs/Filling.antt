-- Numbers that are added to a set one after the other.
use Rattle.std.proofs.Common.{◌≡◌, ◌≢◌, ℕ, suc, ◌+◌, ◌<◌, Bool, true, false, true≢false, List, [], ◌∷◌, ◌++◌, length, map, take, get_or, not, None, Some, Option, is_some, refl, sym, ap, subst, ◌∙◌, arith, inr}
use Rattle.std.specs.Prelude.{◌⊎◌, AllPairs, Contains, IsTrue, slice_get}
use Rattle.std.proofs.lemmas.List.{get_or-map, get_or_default, get_or-take, length-take-le}
use Rattle.std.proofs.lemmas.List.Elements.{All-push}
use Rattle.std.proofs.lemmas.List.Quantifiers.{all_pairs_push}
use Rattle.std.proofs.Math.Seq.{take-suc}
use Rattle.std.proofs.lemmas.Option.{get_or_from_slice_get, slice_get_within}
use Rattle.base_collections.specs.Numbers.{IsAdded, IsIndexOf, NumbersBelow}
use Rattle.store_form_2.specs.declared.rows.Row.{Row}
use Rattle.store_form_2.specs.Fits.{AreFrom, blank_row, name_at}

-- the answer to what isn't so
pub no_answer : {P : Type 0} → ¬ P → (IsTrue false → P) × (P → IsTrue false)
no_answer never = (λ e. absurd (true≢false (sym e)), λ p. absurd (never p))

pub yes_answer : {P : Type 0} → P → (IsTrue true → P) × (P → IsTrue true)
yes_answer p = (λ e. p, λ q. refl)

pub taken : (xs : List ℕ) (i : ℕ) → i < length xs → take i xs ++ get_or xs i 0 ∷ [] ≡ take (i + 1) xs
taken xs i l = let next : suc i ≡ i + 1 = omega arith in sym (take-suc xs i 0 l) ∙ ap (λ (n : ℕ). take n xs) next

-- in a list without repeats, an item isn't among the items before it
pub not_twice : (xs : List ℕ) (i : ℕ) → AllPairs (λ a b. a ≢ b) xs → i < length xs → ¬ Contains (take i xs) (get_or xs i 0)
not_twice xs i once l has =
    let low : has.0 < i = omega (arith, has.1, length-take-le i xs (omega arith)) in
    let x : ℕ = get_or xs i 0 in
    once has.0 i x low l (sym (get_or-take i xs has.0 x low) ∙ has.2 ∙ sym (get_or_default xs i x 0 l))

pub filled : (xs : List ℕ) (i size : ℕ) (is_new : Bool) (new : NumbersBelow) → AllPairs (λ a b. a ≢ b) xs → i < length xs → IsAdded is_new (get_or xs i 0) (record { size = size; numbers = take i xs }) new → new ≡ record { size = size; numbers = take (i + 1) xs }
filled xs i size true new once l is = is.1 ∙ ap (λ (ns : List ℕ). record { size = size; numbers = ns }) (taken xs i l)
filled xs i size false new once l is = absurd (not_twice xs i once l is.0)

-- a number that isn't among the first keeps them once
pub once_more : (xs : List ℕ) (i : ℕ) → i < length xs → AllPairs (λ a b. a ≢ b) (take i xs) → ¬ Contains (take i xs) (get_or xs i 0) → AllPairs (λ a b. a ≢ b) (take (i + 1) xs)
once_more xs i l once none =
    subst (AllPairs (λ a b. a ≢ b)) (taken xs i l)
    (all_pairs_push (λ a b. a ≢ b) (take i xs) (get_or xs i 0) once (λ k d m e. none (k, m, get_or_default (take i xs) k (get_or xs i 0) d m ∙ e)))

-- numbers that were added are from where they came
pub from_added : (start inner : List ℕ) (number : ℕ) (is_new : Bool) (old new : NumbersBelow) → IsAdded is_new number old new → Contains inner number → AreFrom start inner old.numbers → AreFrom start inner new.numbers
from_added start inner number true old new is in_it are =
    subst (λ (s : NumbersBelow). AreFrom start inner s.numbers) (sym is.1) (All-push (λ (n : ℕ). Contains start n ⊎ Contains inner n) old.numbers number are (inr in_it))
from_added start inner number false old new is in_it are = subst (λ (s : NumbersBelow). AreFrom start inner s.numbers) (sym is.1) are

pub size_added : (number : ℕ) (is_new : Bool) (old new : NumbersBelow) → IsAdded is_new number old new → new.size ≡ old.size
size_added number true old new is = ap (λ (s : NumbersBelow). s.size) is.1
size_added number false old new is = ap (λ (s : NumbersBelow). s.size) is.1

-- a name that is there already
pub named_twice : (xs : List ℕ) (i size number : ℕ) (is_new : Bool) (old new : NumbersBelow) → i < length xs → number ≡ get_or xs i 0 → old ≡ record { size = size; numbers = take i xs } → is_new ≡ false → IsAdded is_new number old new → ¬ (AllPairs (λ a b. a ≢ b) xs)
named_twice xs i size number true old new l here at e is once = absurd cc
named_twice xs i size number false old new l here at e is once =
    let held : Contains (take i xs) number = subst (λ (s : NumbersBelow). Contains s.numbers number) at is.0 in
    not_twice xs i once l (subst (Contains (take i xs)) here held)

-- and one that is new
pub named_once : (xs : List ℕ) (i size number : ℕ) (is_new : Bool) (old new : NumbersBelow) → i < length xs → number ≡ get_or xs i 0 → old ≡ record { size = size; numbers = take i xs } → is_new ≡ true → IsAdded is_new number old new → AllPairs (λ a b. a ≢ b) (take i xs) → (new ≡ record { size = size; numbers = take (i + 1) xs }) × AllPairs (λ a b. a ≢ b) (take (i + 1) xs)
named_once xs i size number false old new l here at e is once = absurd cc
named_once xs i size number true old new l here at e is once =
    let grown : new ≡ record { size = size; numbers = take i xs ++ number ∷ [] } = is.1 ∙ ap (λ (s : NumbersBelow). record { size = s.size; numbers = s.numbers ++ number ∷ [] }) at in
    let more : take i xs ++ number ∷ [] ≡ take (i + 1) xs = ap (λ (n : ℕ). take i xs ++ n ∷ []) here ∙ taken xs i l in
    let none : ¬ Contains (take i xs) (get_or xs i 0) = λ has. is.0 (subst (λ (s : NumbersBelow). Contains s.numbers number) (sym at) (subst (Contains (take i xs)) (sym here) has)) in
    (grown ∙ ap (λ (ns : List ℕ). record { size = size; numbers = ns }) more, once_more xs i l once none)

pub none_named : (numbers : List ℕ) (name : ℕ) (location : Option ℕ) (none : Bool) → IsIndexOf numbers name location → is_some location ≡ not none → (IsTrue none → ¬ Contains numbers name) × ((¬ Contains numbers name) → IsTrue none)
none_named numbers name None true is e = (λ t. is, λ n. refl)
none_named numbers name None false is e = absurd cc
none_named numbers name (Some location) true is e = absurd cc
none_named numbers name (Some location) false is e =
    let low : location < length numbers = slice_get_within numbers location name is in
    (λ t. absurd cc, λ n. absurd (n (location, low, get_or_from_slice_get numbers location name name is)))

pub named_here : (rows : List Row) (deps : List ℕ) (i : ℕ) (row : Row) → i < length deps → slice_get rows (get_or deps i 0) ≡ Some row → row.name ≡ get_or (map (name_at rows) deps) i 0
named_here rows deps i row l at =
    ap (λ (r : Row). r.name) (sym (get_or_from_slice_get rows (get_or deps i 0) row blank_row at)) ∙ sym (get_or-map (name_at rows) deps i 0 0 l)
