-- The values of keys, after one is given a value.
use Rattle.std.proofs.Common.{◌≡◌, ℕ, zero, suc, ◌<◌, Bool, true, false, true≢false, cond, List, [], ◌∷◌, ◌++◌, length, set, Contains, None, Some, Option, position, inl, inr, refl, sym, ap, ◌∙◌, arith}
use Rattle.std.specs.Prelude.{◌≢◌, AllPairs, slice_get}
use Rattle.std.specs.Bool.{Decides}
use Rattle.std.proofs.lemmas.Option.{slice_get_within}
use Rattle.base_collections.specs.Maps.{Entries, at_bucket, get}
use Rattle.base_collections.proofs.Buckets.{at_position, nowhere, once_more, position_is}
use Rattle.base_collections.proofs.Pushes.{at_of, cases_push, contained, end_push, left_push}

module _ {X : Type 0} where
  set_same : (xs : List X) (i : ℕ) (y : X) → i < length xs → slice_get (set xs i y) i ≡ Some y
  set_same [] i y low = absurd (omega (arith, low))
  set_same (x ∷ xs) zero y low = refl
  set_same (x ∷ xs) (suc i) y low = set_same xs i y (omega (arith, low))

  set_other : (xs : List X) (i j : ℕ) (y : X) → (i ≡ j → ⊥) → slice_get (set xs i y) j ≡ slice_get xs j
  set_other [] i j y differ = refl
  set_other (x ∷ xs) zero zero y differ = absurd (differ refl)
  set_other (x ∷ xs) zero (suc j) y differ = refl
  set_other (x ∷ xs) (suc i) zero y differ = refl
  set_other (x ∷ xs) (suc i) (suc j) y differ = set_other xs i j y (λ e. differ (ap suc e))

  before_push : (xs : List X) (i : ℕ) (y : X) → i < length xs → slice_get (xs ++ y ∷ []) i ≡ slice_get xs i
  before_push [] i y low = absurd (omega (arith, low))
  before_push (x ∷ xs) zero y low = refl
  before_push (x ∷ xs) (suc i) y low = before_push xs i y (omega (arith, low))

some_same : {X : Type 0} (x y : X) → ◌≡◌ {A = Option X} (Some x) (Some y) → x ≡ y
some_same x y e = cc

entries : {K V : Type 0} → List K → List V → Entries K V
entries keys values = record { keys = keys; values = values }

module _ {K V : Type 0} {eq : K → K → Bool} (same : (a b : K) → Decides (eq a b) (a ≡ b)) (keys : List K) (values : List V) (key : K) (value : V) (once : AllPairs (λ a b. a ≢ b) keys) (long : length values ≡ length keys) where
  differs : (other : K) → eq key other ≡ false → key ≡ other → ⊥
  differs other told e = true≢false (sym ((same key other).1 e) ∙ told)

  -- a key that is there has another value
  pub updated : (bucket : ℕ) → slice_get keys bucket ≡ Some key → (other : K) → get eq (record { keys = keys; values = set values bucket value }) other ≡ cond (eq key other) (Some value) (get eq (record { keys = keys; values = values }) other)
  updated bucket at other = by (eq key other) refl where
    by : (b : Bool) → eq key other ≡ b → at_bucket (set values bucket value) (position (eq other) keys) ≡ cond b (Some value) (at_bucket values (position (eq other) keys))
    by true told =
        let here : slice_get keys bucket ≡ Some other = at ∙ ap (λ (k : K). Some k) ((same key other).0 told) in
        let low : bucket < length keys = slice_get_within keys bucket key at in
        ap (at_bucket (set values bucket value)) (sym (position_is same keys other (Some bucket) once here)) ∙ set_same values bucket value (omega (arith, low, long))
    by false told = by_bucket (position (eq other) keys) refl where
      by_bucket : (found : Option ℕ) → position (eq other) keys ≡ found → at_bucket (set values bucket value) found ≡ at_bucket values found
      by_bucket None e = refl
      by_bucket (Some m) e = set_other values bucket m value (λ (is : bucket ≡ m). differs other told (some_same key other (sym at ∙ (ap (slice_get keys) is ∙ at_position same keys other m e))))

  -- a key that is new has the value, and the others keep theirs
  pub added : ¬ Contains keys key → (other : K) → get eq (record { keys = keys ++ key ∷ []; values = values ++ value ∷ [] }) other ≡ cond (eq key other) (Some value) (get eq (record { keys = keys; values = values }) other)
  added new other = by (eq key other) refl where
    all : AllPairs (λ a b. a ≢ b) (keys ++ key ∷ [])
    all = once_more keys key once new

    by : (b : Bool) → eq key other ≡ b → at_bucket (values ++ value ∷ []) (position (eq other) (keys ++ key ∷ [])) ≡ cond b (Some value) (at_bucket values (position (eq other) keys))
    by true told =
        let here : slice_get (keys ++ key ∷ []) (length keys) ≡ Some other = end_push key keys ∙ ap (λ (k : K). Some k) ((same key other).0 told) in
        ap (at_bucket (values ++ value ∷ [])) (sym (position_is same (keys ++ key ∷ []) other (Some (length keys)) all here)) ∙ (ap (slice_get (values ++ value ∷ [])) (sym long) ∙ end_push value values)
    by false told = by_bucket (position (eq other) keys) refl where
      absent : position (eq other) keys ≡ None → ¬ Contains (keys ++ key ∷ []) other
      absent none has = elim (cases_push key keys has.0 other (at_of (keys ++ key ∷ []) other has)) [ inl e ↦ nowhere same keys other once none (contained keys has.0 other e) | inr e ↦ differs other told e.1 ]

      by_bucket : (found : Option ℕ) → position (eq other) keys ≡ found → at_bucket (values ++ value ∷ []) (position (eq other) (keys ++ key ∷ [])) ≡ at_bucket values found
      by_bucket None e = ap (at_bucket (values ++ value ∷ [])) (sym (position_is same (keys ++ key ∷ []) other None all (absent e)))
      by_bucket (Some m) e =
          let at : slice_get keys m ≡ Some other = at_position same keys other m e in
          let low : m < length keys = slice_get_within keys m other at in
          ap (at_bucket (values ++ value ∷ [])) (sym (position_is same (keys ++ key ∷ []) other (Some m) all (left_push key keys m other at))) ∙ before_push values m value (omega (arith, low, long))
