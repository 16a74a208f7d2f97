-- Keys that are equal only where they are the same.
use Rattle.std.proofs.Common.{◌≡◌, ℕ, Bool, true, false, true≢false, List, [], ◌∷◌, ◌++◌, get_or, None, Some, Option, is_some, position, refl, sym, ap, ◌∙◌, if◌then◌else◌}
use Rattle.std.specs.Prelude.{Contains}
use Rattle.std.specs.Bool.{Decides}
use Rattle.std.specs.List.{list_any}
use Rattle.std.proofs.lemmas.List.Quantifiers.{position-Some}
use Rattle.std.proofs.lemmas.Map.Views.{Contains-from_any, list_any-from_Contains}
use Rattle.std.proofs.lemmas.Option.{slice_get-get_or}
use Rattle.std.specs.Cmp.{IsEquivalence}
use Rattle.base_collections.specs.Numbers.{IsIndexOf}

module _ {K : Type 0} {eq : K → K → Bool} (same : (a b : K) → Decides (eq a b) (a ≡ b)) (laws : IsEquivalence eq) where
  pub found : (keys : List K) (key : K) (item_index : Option ℕ) → item_index ≡ position (eq key) keys → is_some item_index ≡ list_any (eq key) keys → IsIndexOf keys key item_index
  found keys key None at any = λ has. true≢false (sym (list_any-from_Contains laws key keys has) ∙ sym any)
  found keys key (Some item_index) at any =
      let is = position-Some (eq key) keys item_index key (sym at) in
      slice_get-get_or keys item_index key is.0 ∙ ap (λ (k : K). Some k) (sym ((same key (get_or keys item_index key)).0 is.1))

  pub put : (keys : List K) (key : K) → ¬ Contains keys key → (if list_any (eq key) keys then keys else keys ++ key ∷ []) ≡ keys ++ key ∷ []
  put keys key new = by (list_any (eq key) keys) refl
    where
      by : (b : Bool) → list_any (eq key) keys ≡ b → (if b then keys else keys ++ key ∷ []) ≡ keys ++ key ∷ []
      by true e = absurd (new (Contains-from_any (λ x y. (same x y).0) key keys e))
      by false e = refl
