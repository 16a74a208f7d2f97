-- The buckets of keys, each of which is there once.
use Rattle.std.proofs.Common.{◌≡◌, ℕ, ◌+◌, ◌<◌, Bool, List, [], ◌∷◌, ◌++◌, length, Contains, get_or, None, Some, Option, position, refl, sym, ap, ◌∙◌, arith, if◌then◌else◌}
use Rattle.std.specs.Prelude.{◌≢◌, AllPairs, slice_get}
use Rattle.std.specs.Bool.{Decides}
use Rattle.std.specs.Cmp.{IsEquivalence}
use Rattle.std.specs.List.{list_any, position_or_len}
use Rattle.std.proofs.lemmas.Bool.{false_from_ne_true}
use Rattle.std.proofs.lemmas.Grind.{common_steps}
use Rattle.std.proofs.lemmas.List.{get_or_append_left, get_or_at, get_or_default, length_push}
use Rattle.std.proofs.lemmas.List.Quantifiers.{all_pairs_push, position-Some}
use Rattle.std.proofs.lemmas.List.Sums.{position_or_len_is}
use Rattle.std.proofs.lemmas.Map.Views.{Contains-from_any, list_any-from_Contains}
use Rattle.std.proofs.lemmas.Option.{get_or_from_slice_get, slice_get-get_or, slice_get_within}
use Rattle.indexmap.specs.IndexSet.{insert_key}
use Rattle.base_collections.specs.OrderedKeys.{IsKeyAt}
use Rattle.base_collections.proofs.Pushes.{at_of}

-- one key more, which is new
pub once_more : {K : Type 0} (keys : List K) (key : K) → AllPairs (λ a b. a ≢ b) keys → ¬ Contains keys key → AllPairs (λ a b. a ≢ b) (keys ++ key ∷ [])
once_more keys key once new = all_pairs_push (λ a b. a ≢ b) keys key once (λ k d low e. new (k, low, get_or_default keys k key d low ∙ e))

-- the last of keys, each of which is there once, wasn't there before
pub new_last : {K : Type 0} (keys : List K) (key : K) → AllPairs (λ a b. a ≢ b) (keys ++ key ∷ []) → ¬ Contains keys key
new_last keys key once has =
    let longer : length (keys ++ key ∷ []) ≡ length keys + 1 = length_push keys key in
    once has.0 (length keys) key has.1 (omega (arith, longer)) (get_or_append_left keys (key ∷ []) key has.0 has.1 ∙ (has.2 ∙ sym (get_or_at keys key [] key (length keys) refl)))

pub once_before : {K : Type 0} (keys : List K) (key : K) → AllPairs (λ a b. a ≢ b) (keys ++ key ∷ []) → AllPairs (λ a b. a ≢ b) keys
once_before keys key once i j d less low e =
    let longer : length (keys ++ key ∷ []) ≡ length keys + 1 = length_push keys key in
    once i j d less (omega (arith, longer, low)) (get_or_append_left keys (key ∷ []) d i (omega (arith, less, low)) ∙ (e ∙ sym (get_or_append_left keys (key ∷ []) d j low)))

module _ {K : Type 0} {eq : K → K → Bool} (same : (a b : K) → Decides (eq a b) (a ≡ b)) where
  pub placed_at : (keys : List K) (key : K) (bucket : ℕ) → AllPairs (λ a b. a ≢ b) keys → slice_get keys bucket ≡ Some key → position_or_len (eq key) keys ≡ bucket
  placed_at keys key bucket once at =
      let within : bucket < length keys = slice_get_within keys bucket key at in
      let is : get_or keys bucket key ≡ key = get_or_from_slice_get keys bucket key key at in
      position_or_len_is (eq key) keys bucket key (omega (arith, within))
      (λ k before. false_from_ne_true (eq key (get_or keys k key)) (λ t. once k bucket key before within (sym ((same key (get_or keys k key)).0 t) ∙ sym is)))
      (λ low. (same key (get_or keys bucket key)).1 (sym is))

  pub placed_nowhere : (keys : List K) (key : K) → ¬ Contains keys key → position_or_len (eq key) keys ≡ length keys
  placed_nowhere keys key new =
      position_or_len_is (eq key) keys (length keys) key (omega arith)
      (λ k before. false_from_ne_true (eq key (get_or keys k key)) (λ t. new (k, before, sym ((same key (get_or keys k key)).0 t))))
      (λ low. absurd (omega (arith, low)))

  -- where a key is told to be
  pub position_is : (keys : List K) (key : K) (bucket : Option ℕ) → AllPairs (λ a b. a ≢ b) keys → IsKeyAt keys key bucket → bucket ≡ position (eq key) keys
  position_is keys key None once new = let e = placed_nowhere keys key new in grind (arith, common_steps, e)
  position_is keys key (Some bucket) once at =
      let e = placed_at keys key bucket once at in
      let within : bucket < length keys = slice_get_within keys bucket key at in
      grind (arith, common_steps, e, within)

  -- what is at a bucket that is found
  pub at_position : (keys : List K) (key : K) (bucket : ℕ) → position (eq key) keys ≡ Some bucket → slice_get keys bucket ≡ Some key
  at_position keys key bucket found =
      let is = position-Some (eq key) keys bucket key found in
      slice_get-get_or keys bucket key is.0 ∙ ap (λ (k : K). Some k) (sym ((same key (get_or keys bucket key)).0 is.1))

  pub nowhere : (keys : List K) (key : K) → AllPairs (λ a b. a ≢ b) keys → position (eq key) keys ≡ None → ¬ Contains keys key
  nowhere keys key once found has = let never : ◌≡◌ {A = Option ℕ} (Some has.0) None = position_is keys key (Some has.0) once (at_of keys key has) ∙ found in let impossible : ⊥ = cc in impossible

  module _ (laws : IsEquivalence eq) where
    pub kept : (keys : List K) (key : K) → Contains keys key → keys ≡ insert_key eq keys key
    kept keys key has = ap (λ (b : Bool). if b then keys else keys ++ key ∷ []) (sym (list_any-from_Contains laws key keys has))

    pub grown : (keys : List K) (key : K) → ¬ Contains keys key → keys ++ key ∷ [] ≡ insert_key eq keys key
    grown keys key new = ap (λ (b : Bool). if b then keys else keys ++ key ∷ []) (sym (false_from_ne_true (list_any (eq key) keys) (λ t. new (Contains-from_any (λ x y. (same x y).0) key keys t))))
