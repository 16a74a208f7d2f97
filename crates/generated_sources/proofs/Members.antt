-- What a list has, by recursion.
use Rattle.std.proofs.Common.{◌≡◌, ◌≢◌, zero, suc, ℕ, ◌<◌, ◌⊎◌, ⊎_elim, inl, inr, Bool, true, false, List, [], ◌∷◌, ◌++◌, length, map, get_or, refl, sym, ap, subst, ◌∙◌, arith}
use Rattle.std.specs.Prelude.{AllPairs, Contains, filter, Some, None, find, if◌then◌else◌}
use Rattle.std.specs.List.{list_any}
use Rattle.std.proofs.lemmas.Bool.{cases_order, cond-false}
use Rattle.vhdl_spec.proofs.SomeTests.{Contains-first, Contains-later, or_first, or_second, some_of}

abbrev pub Has : {X : Type 0} → List X → X → Type 0
Has [] x = ⊥
Has (y ∷ ys) x = (y ≡ x) ⊎ Has ys x

pub has_contained : {X : Type 0} (xs : List X) (x : X) → Contains xs x → Has xs x
has_contained [] x (k, within, is) = absurd (omega (arith, within))
has_contained (y ∷ ys) x (zero, within, is) = inl is
has_contained (y ∷ ys) x (suc k, within, is) = inr (has_contained ys x (k, omega (arith, within), is))

pub contains_had : {X : Type 0} (xs : List X) (x : X) → Has xs x → Contains xs x
contains_had [] x has = absurd has
contains_had {X} (y ∷ ys) x has = ⊎_elim (λ (is : y ≡ x). subst (Contains (y ∷ ys)) is (Contains-first y ys)) (λ (later : Has ys x). Contains-later y x ys (contains_had ys x later)) has

pub has_first_part : {X : Type 0} (xs ys : List X) (x : X) → Has xs x → Has (xs ++ ys) x
has_first_part [] ys x has = absurd has
has_first_part (z ∷ xs) ys x has = ⊎_elim (λ (is : z ≡ x). inl is) (λ (later : Has xs x). inr (has_first_part xs ys x later)) has

pub has_second_part : {X : Type 0} (xs ys : List X) (x : X) → Has ys x → Has (xs ++ ys) x
has_second_part [] ys x has = has
has_second_part (z ∷ xs) ys x has = inr (has_second_part xs ys x has)

pub has_either : {X : Type 0} (xs ys : List X) (x : X) → Has (xs ++ ys) x → Has xs x ⊎ Has ys x
has_either [] ys x has = inr has
has_either {X} (z ∷ xs) ys x has =
    ⊎_elim
    (λ (is : z ≡ x). inl (inl is))
    (λ (later : Has (xs ++ ys) x). ⊎_elim (λ (first : Has xs x). inl (inr first)) (λ (second : Has ys x). inr second) (has_either xs ys x later))
    has

pub has_mapped : {X Y : Type 0} (f : X → Y) (xs : List X) (x : X) → Has xs x → Has (map f xs) (f x)
has_mapped f [] x has = absurd has
has_mapped {X} {Y} f (y ∷ xs) x has = ⊎_elim (λ (is : y ≡ x). inl (ap f is)) (λ (later : Has xs x). inr (has_mapped f xs x later)) has

pub map_had : {X Y : Type 0} (f : X → Y) (xs : List X) (y : Y) → Has (map f xs) y → (x : X) × Has xs x × (f x ≡ y)
map_had f [] y has = absurd has
map_had {X} {Y} f (x ∷ xs) y has =
    ⊎_elim
    (λ (is : f x ≡ y). (x, inl refl, is))
    (λ (later : Has (map f xs) y). let found = map_had f xs y later in (found.0, inr found.1, found.2))
    has

-- the element at a rank
pub has_at : (xs : List ℕ) (i d : ℕ) → i < length xs → Has xs (get_or xs i d)
has_at [] i d inside = absurd (omega (arith, inside))
has_at (x ∷ xs) zero d inside = inl refl
has_at (x ∷ xs) (suc i) d inside = inr (has_at xs i d (omega (arith, inside)))

-- ## Tests

pub any_had : {X : Type 0} (p : X → Bool) (xs : List X) (x : X) → Has xs x → p x ≡ true → list_any p xs ≡ true
any_had p [] x has passes = absurd has
any_had {X} p (y ∷ xs) x has passes =
    ⊎_elim (λ (is : y ≡ x). or_first (p y) (list_any p xs) (ap p is ∙ passes)) (λ (later : Has xs x). or_second (p y) (list_any p xs) (any_had p xs x later passes)) has

pub had_any : {X : Type 0} (p : X → Bool) (xs : List X) → list_any p xs ≡ true → (x : X) × Has xs x × (p x ≡ true)
had_any p xs some = let found = some_of p xs some in (found.0, has_contained xs found.0 found.1, found.2)

pub none_found : {X : Type 0} (p : X → Bool) (xs : List X) → ((x : X) → Has xs x → p x ≡ false) → find p xs ≡ None
none_found p [] none = refl
none_found {X} p (x ∷ xs) none = cond-false (p x) (Some x) (find p xs) (none x (inl refl)) ∙ none_found p xs (λ (y : X) (has : Has xs y). none y (inr has))

pub same_tests : (a b : Bool) → (a ≡ true → b ≡ true) → (b ≡ true → a ≡ true) → a ≡ b
same_tests true true to from = refl
same_tests true false to from = let no_way : false ≡ true = to refl in absurd (let nothing : ⊥ = cc in nothing)
same_tests false true to from = let no_way : false ≡ true = from refl in absurd (let nothing : ⊥ = cc in nothing)
same_tests false false to from = refl

pub same_map : {X Y : Type 0} (f g : X → Y) (xs : List X) → ((x : X) → Has xs x → f x ≡ g x) → map f xs ≡ map g xs
same_map f g [] same = refl
same_map {X} {Y} f g (x ∷ xs) same = λ i. same x (inl refl) i ∷ same_map f g xs (λ (y : X) (has : Has xs y). same y (inr has)) i

pub same_filter : {X : Type 0} (p q : X → Bool) (xs : List X) → ((x : X) → Has xs x → p x ≡ q x) → filter p xs ≡ filter q xs
same_filter p q [] same = refl
same_filter {X} p q (x ∷ xs) same = λ i. if same x (inl refl) i then x ∷ same_filter p q xs (λ (y : X) (has : Has xs y). same y (inr has)) i else same_filter p q xs (λ (y : X) (has : Has xs y). same y (inr has)) i

-- ## Distinct elements

abbrev pub AreApart : List ℕ → Type 0
AreApart [] = Unit {0}
AreApart (x ∷ xs) = ((y : ℕ) → Has xs y → y ≢ x) × AreApart xs

apart_first : (x : ℕ) (xs : List ℕ) → AllPairs (λ a b. a ≢ b) (x ∷ xs) → (y : ℕ) → Has xs y → y ≢ x
apart_first x xs pairs y has same =
    let found : Contains xs y = contains_had xs y has in
    pairs 0 (suc found.0) y (omega arith) (omega (arith, found.1)) (sym same ∙ sym found.2)

pub all_apart : (xs : List ℕ) → AllPairs (λ a b. a ≢ b) xs → AreApart xs
all_apart [] pairs = tt
all_apart (x ∷ xs) pairs = (apart_first x xs pairs, all_apart xs (λ i j d less within. pairs (suc i) (suc j) d (omega (arith, less)) (omega (arith, within))))

-- equal elements are at one rank
pub one_rank : (xs : List ℕ) → AllPairs (λ a b. a ≢ b) xs → (i j d : ℕ) → i < length xs → j < length xs → get_or xs i d ≡ get_or xs j d → i ≡ j
one_rank xs pairs i j d first second same =
    elim (cases_order i j) [
      | inl is ↦ is
      | inr other ↦ elim other [
        | inl less ↦ absurd (pairs i j d less second same)
        | inr more ↦ absurd (pairs j i d more first (sym same))
      ]
    ]
