-- A property that each item passes on to its picked value holds for all picked values. The same is true for a relation between
-- each item and each later one.
use Rattle.std.proofs.Common.{◌≡◌, suc, List, [], ◌∷◌, length, map, Option, Some, None, refl, sym, ap, ◌∙◌, arith}
use Rattle.std.specs.Prelude.{All, AllPairs}
use Rattle.std.specs.List.{filter_map, cons_option}
use Rattle.std.specs.Option.{option_map}
use Rattle.std.proofs.lemmas.Option.{none-some, same_Some}
use Rattle.std.proofs.lemmas.List.Elements.{All-nil, All-cons, All-head, All-tail}
use Rattle.std.proofs.lemmas.List.Kept.{AllPairs-cons}
use Rattle.store_form_2.specs.Migrating.{each_of}

-- the first of a list with each later one
pub AllPairs-head : {X : Type 0} (R : X → X → Type 0) (x : X) (xs : List X) → AllPairs R (x ∷ xs) → All (R x) xs
AllPairs-head R x xs pairs j d l = pairs 0 (suc j) d (omega arith) (omega arith)

-- the others with each other
pub AllPairs-tail : {X : Type 0} (R : X → X → Type 0) (x : X) (xs : List X) → AllPairs R (x ∷ xs) → AllPairs R xs
AllPairs-tail R x xs pairs i j d lt l = pairs (suc i) (suc j) d (omega arith) (omega arith)

module _ {X Y : Type 0} (f : X → Option Y) where
  -- one item more, where what is picked of it is known
  pub picked_more : (x : X) (xs : List X) (here : Option Y) → f x ≡ here → filter_map f (x ∷ xs) ≡ cons_option here (filter_map f xs)
  picked_more x xs here h = ap (λ (y : Option Y). cons_option y (filter_map f xs)) h

  -- a property of the value picked for one item, if any, and of all other values holds for the whole list
  all_more : (Q : Y → Type 0) (ys : List Y) (here : Option Y) → ((y : Y) → here ≡ Some y → Q y) → All Q ys → All Q (cons_option here ys)
  all_more Q ys None one others = others
  all_more Q ys (Some y) one others = All-cons Q y ys (one y refl) others

  pub All-filter_map : (P : X → Type 0) (Q : Y → Type 0) → ((x : X) (y : Y) → P x → f x ≡ Some y → Q y) → (xs : List X) → All P xs → All Q (filter_map f xs)
  All-filter_map P Q step [] all = All-nil Q
  All-filter_map P Q step (x ∷ xs) all =
      all_more Q (filter_map f xs) (f x) (λ y is. step x y (All-head P x xs all) is) (All-filter_map P Q step xs (All-tail P x xs all))

  pairs_more : (R : Y → Y → Type 0) (ys : List Y) (here : Option Y) → ((y : Y) → here ≡ Some y → All (R y) ys) → AllPairs R ys → AllPairs R (cons_option here ys)
  pairs_more R ys None one others = others
  pairs_more R ys (Some y) one others = AllPairs-cons R y ys (one y refl) others

  pub AllPairs-filter_map : (S : X → X → Type 0) (R : Y → Y → Type 0) → ((a b : X) (x y : Y) → S a b → f a ≡ Some x → f b ≡ Some y → R x y) → (xs : List X) → AllPairs S xs → AllPairs R (filter_map f xs)
  AllPairs-filter_map S R step [] pairs = λ i j d lt l. absurd (omega arith)
  AllPairs-filter_map S R step (x ∷ xs) pairs =
      pairs_more R (filter_map f xs) (f x) (λ y is. All-filter_map (S x) (R y) (λ b z s at. step x b y z s is at) xs (AllPairs-head S x xs pairs))
      (AllPairs-filter_map S R step xs (AllPairs-tail S x xs pairs))

-- the first and the others of values that are all there
pub each_parts : {Y : Type 0} (first : Option Y) (rest : List (Option Y)) (ys : List Y) → each_of (first ∷ rest) ≡ Some ys
    → (y : Y) × (others : List Y) × (first ≡ Some y) × (each_of rest ≡ Some others) × (y ∷ others ≡ ys)
unfolding each_of
each_parts {Y} None rest ys h = absurd (none-some ys h)
each_parts {Y} (Some y) rest ys h = from (each_of rest) refl h where
  from : (here : Option (List Y)) → each_of rest ≡ here → option_map (λ others. y ∷ others) here ≡ Some ys → (z : Y) × (others : List Y) × (Some y ≡ Some z) × (each_of rest ≡ Some others) × (z ∷ others ≡ ys)
  from None at g = absurd (none-some ys g)
  from (Some others) at g = (y, others, refl, at, same_Some (y ∷ others) ys g)

module _ {X Y : Type 0} (f g : X → Option Y) (same : (x : X) (y : Y) → f x ≡ Some y → g x ≡ Some y) where
  -- where all of them are there, they are what is picked by each function that gives the same
  pub picked_each : (xs : List X) (ys : List Y) → each_of (map f xs) ≡ Some ys → filter_map g xs ≡ ys
  unfolding each_of
  picked_each [] ys h = same_Some [] ys h
  picked_each (x ∷ xs) ys h =
      let parts = each_parts (f x) (map f xs) ys h in
      picked_more g x xs (Some parts.0) (same x parts.0 parts.2) ∙ ap (λ (others : List Y). parts.0 ∷ others) (picked_each xs parts.1 parts.3) ∙ parts.4

-- and as many
pub length_each : {X Y : Type 0} (f : X → Option Y) (xs : List X) (ys : List Y) → each_of (map f xs) ≡ Some ys → length ys ≡ length xs
unfolding each_of
length_each f [] ys h = sym (ap length (same_Some [] ys h))
length_each f (x ∷ xs) ys h =
    let parts = each_parts (f x) (map f xs) ys h in
    sym (ap length parts.4) ∙ ap suc (length_each f xs parts.1 parts.3)
