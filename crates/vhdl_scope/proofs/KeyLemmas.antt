-- The number of a key, and keys that are added.
use Rattle.std.proofs.Common.{◌≡◌, ℕ, zero, suc, ◌+◌, ◌<◌, ◌≤◌, Bool, true, false, cond, List, [], ◌∷◌, ◌++◌, Contains, Option, Some, None, length, take, get_or, nat_lt, not, ◌⊎◌, inl, inr, refl, sym, ◌∙◌, ap, subst, arith, append_assoc, append-nil}
use Rattle.std.specs.Option.{IfNone, IfSome}
use Rattle.std.specs.List.{flat_map, list_any, position, position_or_len}
use borrow.Author.Tests.{ltb-false, ltb-true}
use Rattle.std.proofs.lemmas.List.{take_more}
use Rattle.std.proofs.lemmas.List.Sums.{position_or_len_is}
use Rattle.std.proofs.lemmas.Grind.{flat_map-append}
use Rattle.std.proofs.lemmas.List.Elements.{Contains-append_cases}
use Rattle.vhdl_spec.proofs.SomeTests.{some_of, Contains-later}
use Rattle.vhdl_scope.specs.Names.{HasAll}
use Rattle.vhdl_scope.proofs.LookLemmas.{one_of}

module _ {K : Type 0} (eq : K → K → Bool) (same : (a b : K) → eq a b ≡ true → a ≡ b) (told : (a b : K) → a ≡ b → eq a b ≡ true) where
  not_first : (key first : K) (keys : List K) → Contains (first ∷ keys) key → eq key first ≡ false → Contains keys key
  not_first key first keys (zero, within, is) differ = let never : true ≡ false = sym (told key first (sym is)) ∙ differ in let impossible : ⊥ = cc in absurd impossible
  not_first key first keys (suc k, within, is) differ = (k, omega arith, is)

  -- a key among keys has its number
  pub numbered : (keys : List K) (key d : K) → Contains keys key → (position_or_len (eq key) keys < length keys) × (get_or keys (position_or_len (eq key) keys) d ≡ key)
  numbered [] key d (k, within, is) = absurd (omega arith)
  numbered (first ∷ keys) key d there = by_first (eq key first) refl (λ (differ : eq key first ≡ false). numbered keys key d (not_first key first keys there differ)) where
    by_first : (b : Bool) → eq key first ≡ b → (eq key first ≡ false → (position_or_len (eq key) keys < length keys) × (get_or keys (position_or_len (eq key) keys) d ≡ key)) → (cond (not b) (1 + position_or_len (eq key) keys) 0 < length (first ∷ keys)) × (get_or (first ∷ keys) (cond (not b) (1 + position_or_len (eq key) keys) 0) d ≡ key)
    by_first true found rest = (omega arith, sym (same key first found))
    by_first false found rest = let h = rest found in let e : 1 + position_or_len (eq key) keys ≡ suc (position_or_len (eq key) keys) = omega arith in rw e (omega (arith, h.0), h.1)

  pub found_key : (keys : List K) (key : K) (result : Option ℕ) → result ≡ position (eq key) keys → IfSome result (λ number. (number ≡ position_or_len (eq key) keys) × (number < length keys))
  found_key keys key result is = subst (λ r. IfSome r (λ number. (number ≡ position_or_len (eq key) keys) × (number < length keys))) (sym is) (by_lt (nat_lt (position_or_len (eq key) keys) (length keys)) refl) where
    by_lt : (b : Bool) → nat_lt (position_or_len (eq key) keys) (length keys) ≡ b → IfSome (cond b (Some (position_or_len (eq key) keys)) None) (λ number. (number ≡ position_or_len (eq key) keys) × (number < length keys))
    by_lt true found = (refl, ltb-true _ _ found)
    by_lt false found = tt

  pub missed_key : (keys : List K) (key : K) (result : Option ℕ) → result ≡ position (eq key) keys → IfNone result (Contains keys key → ⊥)
  missed_key keys key result is = subst (λ r. IfNone r (Contains keys key → ⊥)) (sym is) (by_lt (nat_lt (position_or_len (eq key) keys) (length keys)) refl) where
    by_lt : (b : Bool) → nat_lt (position_or_len (eq key) keys) (length keys) ≡ b → IfNone (cond b (Some (position_or_len (eq key) keys)) None) (Contains keys key → ⊥)
    by_lt true found = tt
    by_lt false found = λ (there : Contains keys key).
        let past : length keys ≤ position_or_len (eq key) keys = ltb-false _ _ found in
        let within : position_or_len (eq key) keys < length keys = (numbered keys key key there).0 in
        omega arith

  -- what has a number is among the keys
  pub there_by : (keys : List K) (key : K) → position_or_len (eq key) keys < length keys → Contains keys key
  there_by [] key within = absurd (omega arith)
  there_by (first ∷ keys) key within = by_first (eq key first) refl within (λ (rest : position_or_len (eq key) keys < length keys). there_by keys key rest) where
    by_first : (b : Bool) → eq key first ≡ b → cond (not b) (1 + position_or_len (eq key) keys) 0 < length (first ∷ keys) → (position_or_len (eq key) keys < length keys → Contains keys key) → Contains (first ∷ keys) key
    by_first true found within rest = (zero, omega arith, sym (same key first found))
    by_first false found within rest = Contains-later first key keys (rest (omega arith))

  pub among : (keys : List K) (key : K) → list_any (eq key) keys ≡ true → Contains keys key
  among keys key any =
      let found = some_of (eq key) keys any in
      subst (Contains keys) (sym (same key found.0 found.2)) found.1

  pub already : (keys : List K) (key : K) → list_any (eq key) keys ≡ true → HasAll (key ∷ []) keys keys
  already keys key any = record { added = λ (x : K) (there : Contains (key ∷ []) x). subst (Contains keys) (one_of key x there) (among keys key any); unchanged = λ (x : K) (there : Contains keys x). there }

pub all_none : {X : Type 0} (old : List X) → HasAll [] old old
all_none {X} old = record { added = λ (x : X) (there : Contains [] x). absurd (omega (arith, there.1)); unchanged = λ (x : X) (there : Contains old x). there }

pub all_both : {X : Type 0} (first next old mid new : List X) → HasAll first old mid → HasAll next mid new → HasAll (first ++ next) old new
all_both {X} first next old mid new one two = record {
  added = λ (x : X) (there : Contains (first ++ next) x). by_part x (Contains-append_cases first next x there);
  unchanged = λ (x : X) (there : Contains old x). two.unchanged x (one.unchanged x there);
} where
  by_part : (x : X) → Contains first x ⊎ Contains next x → Contains new x
  by_part x (inl there) = two.unchanged x (one.added x there)
  by_part x (inr there) = two.added x there

-- the parts of one element more
pub part_more : {X Y : Type 0} (f : X → List Y) (xs : List X) (i : ℕ) (d : X) → i < length xs → flat_map f (take (i + 1) xs) ≡ flat_map f (take i xs) ++ f (get_or xs i d)
part_more f xs i d within =
    ap (flat_map f) (take_more xs i d within) ∙ (flat_map-append f (take i xs) (get_or xs i d ∷ []) ∙ ap (λ rest. flat_map f (take i xs) ++ rest) (append-nil (f (get_or xs i d))))

-- the parts of parts, all together
pub parts_of_parts : {X Y Z : Type 0} (g : Y → List Z) (f : X → List Y) (xs : List X) → flat_map g (flat_map f xs) ≡ flat_map (λ x. flat_map g (f x)) xs
parts_of_parts g f [] = refl
parts_of_parts {X} {Y} {Z} g f (x ∷ xs) = flat_map-append g (f x) (flat_map f xs) ∙ ap (λ (rest : List Z). flat_map g (f x) ++ rest) (parts_of_parts g f xs)

pub all_more : {X Y : Type 0} (before : List Y) (f : X → List Y) (xs : List X) (i : ℕ) (d : X) (old mid new : List Y) → i < length xs → HasAll (before ++ flat_map f (take i xs)) old mid → HasAll (f (get_or xs i d)) mid new → HasAll (before ++ flat_map f (take (i + 1) xs)) old new
all_more {X} {Y} before f xs i d old mid new within one two =
    subst (λ (all : List Y). HasAll all old new) (append_assoc before (flat_map f (take i xs)) (f (get_or xs i d)) ∙ ap (λ (rest : List Y). before ++ rest) (sym (part_more f xs i d within)))
    (all_both (before ++ flat_map f (take i xs)) (f (get_or xs i d)) old mid new one two)

-- the first key that is a key is at an index, or none is
module _ {K : Type 0} (eq : K → K → Bool) (same : (a b : K) → eq a b ≡ true → a ≡ b) (told : (a b : K) → a ≡ b → eq a b ≡ true) where
  pub first_at : (keys : List K) (key : K) (i : ℕ) (d : K) → i < length keys → ((k : ℕ) → k < i → eq key (get_or keys k d) ≡ false) → eq key (get_or keys i d) ≡ true → i ≡ position_or_len (eq key) keys
  first_at keys key i d within before here = sym (position_or_len_is (eq key) keys i d (omega arith) before (λ _. here))

  pub first_none : (keys : List K) (key : K) (d : K) → ((k : ℕ) → k < length keys → eq key (get_or keys k d) ≡ false) → Contains keys key → ⊥
  first_none keys key d before there =
      let is : position_or_len (eq key) keys ≡ length keys = position_or_len_is (eq key) keys (length keys) d (omega arith) before (λ within. absurd (omega (arith, within))) in
      let within : position_or_len (eq key) keys < length keys = (numbered eq same told keys key d there).0 in
      omega arith
