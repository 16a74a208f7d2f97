-- Tests that are joined, and tests of some element.
use Rattle.std.proofs.Common.{◌≡◌, Bool, true, false, ◌&&◌, ◌||◌, List, [], ◌∷◌, map, refl, sym, ◌∙◌, ap}
use Rattle.std.specs.List.{list_any}
use Rattle.vhdl_spec.proofs.SomeTests.{any_never}

pub both_ways : (a b : Bool) → (a ≡ true → b ≡ true) → (b ≡ true → a ≡ true) → a ≡ b
both_ways true b there back = sym (there refl)
both_ways false true there back = back refl
both_ways false false there back = refl

pub and_or : (p a b : Bool) → (p && (a || b)) ≡ ((p && a) || (p && b))
and_or true a b = refl
and_or false a b = refl

-- a test that passes where another does adds nothing to it
pub or_within : (a b : Bool) → (b ≡ true → a ≡ true) → a ≡ (a || b)
or_within true b within = refl
or_within false true within = within refl
or_within false false within = refl

mixed : (a b x y : Bool) → ((a || b) || (x || y)) ≡ ((a || x) || (b || y))
mixed true b x y = refl
mixed false true true y = refl
mixed false true false y = refl
mixed false false x y = refl

pub any_or : {X : Type 0} (p q : X → Bool) (xs : List X) → list_any (λ x. p x || q x) xs ≡ (list_any p xs || list_any q xs)
any_or p q [] = refl
any_or p q (x ∷ xs) = ap (λ (b : Bool). (p x || q x) || b) (any_or p q xs) ∙ mixed (p x) (q x) (list_any p xs) (list_any q xs)

pub any_where : {X : Type 0} (c : Bool) (p : X → Bool) (xs : List X) → list_any (λ x. c && p x) xs ≡ (c && list_any p xs)
any_where true p xs = refl
any_where false p xs = any_never xs

pub any_map : {X Y : Type 0} (p : Y → Bool) (f : X → Y) (xs : List X) → list_any p (map f xs) ≡ list_any (λ x. p (f x)) xs
any_map p f [] = refl
any_map p f (x ∷ xs) = ap (λ (b : Bool). p (f x) || b) (any_map p f xs)

-- some element of each of two lists
pub any_swapped : {X Y : Type 0} (p : X → Y → Bool) (xs : List X) (ys : List Y) → list_any (λ x. list_any (p x) ys) xs ≡ list_any (λ y. list_any (λ x. p x y) xs) ys
any_swapped p [] ys = sym (any_never ys)
any_swapped {X} {Y} p (x ∷ xs) ys = ap (λ (b : Bool). list_any (p x) ys || b) (any_swapped p xs ys) ∙ sym (any_or (p x) (λ (y : Y). list_any (λ (z : X). p z y) xs) ys)
