-- Things of numbers, which no two numbers share.
use Rattle.std.proofs.Common.{◌≡◌, ◌≢◌, ℕ, ◌<◌, List, [], ◌∷◌, ◌++◌, length, map, get_or, Option, Some, None, refl, sym, ap, subst, ◌∙◌, arith, inl, inr, length-append}
use Rattle.std.specs.Prelude.{All, AllPairs, Contains}
use Rattle.std.proofs.lemmas.Bool.{cases_lt}
use Rattle.std.proofs.lemmas.List.{get_or-map, get_or_append_left, get_or_at, get_or_default, length-map}
use Rattle.std.proofs.lemmas.List.Elements.{All-push}
use Rattle.std.proofs.lemmas.Option.{get_or_from_slice_get, slice_get-get_or, slice_get_within}
use Rattle.base_collections.specs.Numbers.{IsIndexOf, NumbersBelow}
use Rattle.store_table.specs.NumberSets.{AreNumbers}

module _ {X : Type 0} (f : ℕ → X) (size : ℕ) (apart : (a b : ℕ) → a < size → b < size → f a ≡ f b → a ≡ b) (numbers : List ℕ) (below : All (λ n. n < size) numbers) where
  count : length (map f numbers) ≡ length numbers
  count = length-map numbers f

  -- no two of the things are the same
  pub things_once : AllPairs (λ a b. a ≢ b) numbers → AllPairs (λ a b. a ≢ b) (map f numbers)
  things_once once i j d l m e =
      let n : j < length numbers = omega (arith, m, count) in
      let o : i < length numbers = omega (arith, l, n) in
      let same : f (get_or numbers i 0) ≡ f (get_or numbers j 0) = sym (get_or-map f numbers i 0 d o) ∙ e ∙ get_or-map f numbers j 0 d n in
      once i j 0 l n (apart (get_or numbers i 0) (get_or numbers j 0) (below i 0 o) (below j 0 n) same)

  pub thing_there : (x : ℕ) → Contains numbers x → Contains (map f numbers) (f x)
  thing_there x has = (has.0, omega (arith, has.1, count), get_or-map f numbers has.0 x (f x) has.1 ∙ ap f has.2)

  -- a thing is there only where its number is
  pub number_there : (x : ℕ) → x < size → Contains (map f numbers) (f x) → Contains numbers x
  number_there x low has =
      let k : ℕ = has.0 in
      let m : k < length numbers = omega (arith, has.1, count) in
      let same : f (get_or numbers k 0) ≡ f x = sym (get_or-map f numbers k 0 (f x) m) ∙ has.2 in
      (k, m, get_or_default numbers k x 0 m ∙ apart (get_or numbers k 0) x (below k 0 m) low same)

  pub thing_index : (x : ℕ) (known : Option ℕ) → x < size → IsIndexOf numbers x known → IsIndexOf (map f numbers) (f x) known
  thing_index x None low is = λ has. is (number_there x low has)
  thing_index x (Some found_index) low is =
      let l : found_index < length numbers = slice_get_within numbers found_index x is in
      slice_get-get_or (map f numbers) found_index (f x) (omega (arith, l, count)) ∙ ap (λ (y : X). Some y) (get_or-map f numbers found_index x (f x) l ∙ ap f (get_or_from_slice_get numbers found_index x x is))

-- one number more, once
once_more : (numbers : List ℕ) (x : ℕ) → AllPairs (λ a b. a ≢ b) numbers → (¬ Contains numbers x) → AllPairs (λ a b. a ≢ b) (numbers ++ x ∷ [])
once_more numbers x once new i j d l m e =
    let low : i < length numbers = omega (arith, l, m, length-append numbers (x ∷ [])) in
    let first : get_or (numbers ++ x ∷ []) i d ≡ get_or numbers i d = get_or_append_left numbers (x ∷ []) d i low in
    elim (cases_lt j (length numbers)) [
      | inl before ↦ once i j d l before (sym first ∙ e ∙ get_or_append_left numbers (x ∷ []) d j before)
      | inr after ↦
          let at : length numbers ≡ j = omega (arith, after, m, length-append numbers (x ∷ [])) in
          new (i, low, get_or_default numbers i x d low ∙ sym first ∙ e ∙ get_or_at numbers x [] d j at)
    ]

pub numbers_more : (size : ℕ) (old new : NumbersBelow) (x : ℕ) → AreNumbers size old → x < size → (¬ Contains old.numbers x) → new ≡ record { size = old.size; numbers = old.numbers ++ x ∷ [] } → AreNumbers size new
numbers_more size old new x are low absent is = subst (AreNumbers size) (sym is) (record {
  room = are.room;
  below = All-push (λ n. n < size) old.numbers x are.below low;
  once = once_more old.numbers x are.once absent;
})

pub number_last : (numbers : List ℕ) (x : ℕ) → Contains (numbers ++ x ∷ []) x
number_last numbers x = (length numbers, omega (arith, length-append numbers (x ∷ [])), get_or_at numbers x [] x (length numbers) refl)
