-- What adding a key answers.
use Rattle.std.proofs.Common.{◌≡◌, ℕ, ◌+◌, ◌≤◌, Bool, List, [], ◌∷◌, ◌++◌, length, Contains, Some, inl, inr, refl, sym, ap, subst, ◌∙◌, arith}
use Rattle.std.specs.Prelude.{◌≢◌, AllPairs, IfOk, OnOk, Result, Ok, Err, slice_get}
use Rattle.std.specs.Bool.{Decides}
use Rattle.std.specs.Cmp.{IsEquivalence}
use Rattle.std.specs.List.{position_or_len}
use Rattle.std.proofs.lemmas.Bool.Decides.{leb_tells}
use Rattle.std.proofs.lemmas.List.{length_push}
use Rattle.std.proofs.lemmas.Option.{slice_get_within}
use Rattle.indexmap.specs.IndexSet.{insert_key}
use Rattle.base_collections.specs.OrderedKeys.{TakesNumber}
use Rattle.base_collections.proofs.Buckets.{grown, kept, new_last, placed_at, placed_nowhere}
use Rattle.base_collections.proofs.Pushes.{contained, end_push}

-- a key that is there
pub there : {K : Type 0} (keys : List K) (key : K) (number : ℕ) → slice_get keys number ≡ Some key → TakesNumber key number keys keys
there keys key number at = record { numbered = at; kept = λ low. refl; grown = λ high. let low = slice_get_within keys number key at in absurd (omega (arith, low, high)) }

-- a key that comes last
pub last_is : {K : Type 0} (keys new : List K) (key : K) (number : ℕ) → number ≡ length keys → new ≡ keys ++ key ∷ [] → TakesNumber key number keys new
last_is keys new key number last is = record {
  numbered = ap (λ (ks : List _). slice_get ks number) is ∙ (ap (slice_get (keys ++ key ∷ [])) last ∙ end_push key keys);
  kept = λ low. absurd (omega (arith, last, low));
  grown = λ high. is;
}

module _ {K : Type 0} (keys new : List K) (key : K) {eq : K → K → Bool} (same : (a b : K) → Decides (eq a b) (a ≡ b)) (all : AllPairs (λ a b. a ≢ b) new) where
  fresh : new ≡ keys ++ key ∷ [] → ¬ Contains keys key
  fresh is = new_last keys key (subst (λ (ks : List K). AllPairs (λ a b. a ≢ b) ks) is all)

  last_number : (number : ℕ) → length keys ≤ number → TakesNumber key number keys new → number ≡ length keys
  last_number number high takes =
      let longer : length (keys ++ key ∷ []) ≡ length keys + 1 = length_push keys key in
      let within = slice_get_within (keys ++ key ∷ []) number key (ap (λ (ks : List K). slice_get ks number) (sym (takes.grown high)) ∙ takes.numbered) in
      omega (arith, longer, within, high)

  pub number_is : {E : Type 0} (result : Result ℕ E) → IfOk result (λ number. TakesNumber key number keys new) → IfOk result (λ number. number ≡ position_or_len (eq key) keys)
  number_is (Err e) takes = tt
  number_is (Ok number) takes =
      elim (leb_tells (length keys) number) [
        | inl high ↦ last_number number high.1 takes ∙ sym (placed_nowhere same keys key (fresh (takes.grown high.1)))
        | inr low ↦
            let is = takes.kept low.1 in
            sym (placed_at same keys key number (subst (λ (ks : List K). AllPairs (λ a b. a ≢ b) ks) is all) (ap (λ (ks : List K). slice_get ks number) (sym is) ∙ takes.numbered))
      ]

  pub inserted : {E : Type 0} → IsEquivalence eq → (result : Result ℕ E) → IfOk result (λ number. TakesNumber key number keys new) → OnOk result (new ≡ insert_key eq keys key)
  inserted laws (Err e) takes = tt
  inserted laws (Ok number) takes =
      elim (leb_tells (length keys) number) [
        | inl high ↦ takes.grown high.1 ∙ grown same laws keys key (fresh (takes.grown high.1))
        | inr low ↦
            let is = takes.kept low.1 in
            is ∙ kept same laws keys key (contained keys number key (ap (λ (ks : List K). slice_get ks number) (sym is) ∙ takes.numbered))
      ]
