-- The files below a position are planned, and one more.
use Rattle.std.proofs.Common.{◌≡◌, ℕ, ◌+◌, ◌<◌, ◌≤◌, Bool, true, false, not, ◌&&◌, List, [], ◌∷◌, ◌++◌, refl, sym, ap, ap₂, subst, ◌∙◌, arith, inl, inr, suc}
use Rattle.std.specs.Prelude.{◌↔◌, All, IsTrue}
use Rattle.std.specs.List.{list_all}
use Rattle.std.proofs.lemmas.Bool.{cases_lt, and_parts}
use Rattle.std.proofs.lemmas.List.{length-append, get_or_append_left, get_or_at}
use Rattle.std.proofs.lemmas.List.Elements.{All-nil, All-cons, All-head, All-tail}
use Rattle.base.specs.declared.graph.Entry.{Entry}
use Rattle.base.specs.Graphs.{IsGraph}
use Rattle.outside.specs.Records.{deps_at}
use Rattle.run_spec.proofs.Artefacts.{deps_before}
use Rattle.run_scheduler.specs.declared.plans.Need.{Need}
use Rattle.run_scheduler.specs.declared.plans.Need.TheVariants.{Fresh, Stale, Later}
use Rattle.run_scheduler.specs.Plans.{is_fresh, is_later, need_at, ArePlannedTo}

list_all_same : (p q : ℕ → Bool) (n : ℕ) → ((k : ℕ) → k < n → p k ≡ q k) → (xs : List ℕ) → All (λ x. x < n) xs → list_all p xs ≡ list_all q xs
list_all_same p q n same [] below = refl
list_all_same p q n same (x ∷ xs) below = ap₂ (λ (a b : Bool). a && b) (same x (below 0 x (omega arith))) (list_all_same p q n same xs (λ k d lt. below (suc k) d (omega arith)))

-- a fresh file isn't checked later
fresh_not_later : (need : Need) → is_fresh need ≡ true → is_later need ≡ false
fresh_not_later Fresh h = refl
fresh_not_later Stale h = let nothing : ⊥ = cc in absurd nothing
fresh_not_later Later h = let nothing : ⊥ = cc in absurd nothing

module _ (graph : List Entry) (is : IsGraph graph) (Fits : ℕ → Type 0) (needs : List Need) where
  pub planned_more : (at : ℕ) (need : Need) → ArePlannedTo graph Fits needs at → is_later need ≡ not (list_all (λ dep. is_fresh (need_at needs dep)) (deps_at graph at)) → (is_later need ≡ false → IsTrue (is_fresh need) ↔ Fits at) → ArePlannedTo graph Fits (needs ++ need ∷ []) (at + 1)
  planned_more at need so_far later fresh =
      let more : List Need = needs ++ need ∷ [] in
      let old : (k : ℕ) → k < at → need_at more k ≡ need_at needs k = λ k lt. get_or_append_left needs (need ∷ []) Later k (omega (arith, lt, so_far.as_many)) in
      let new : need_at more at ≡ need = get_or_at needs need [] Later at (omega (arith, so_far.as_many)) in
      let same : (k : ℕ) → k ≤ at → list_all (λ dep. is_fresh (need_at more dep)) (deps_at graph k) ≡ list_all (λ dep. is_fresh (need_at needs dep)) (deps_at graph k) =
      λ k le. list_all_same (λ dep. is_fresh (need_at more dep)) (λ dep. is_fresh (need_at needs dep)) k (λ dep lt. ap is_fresh (old dep (omega (arith, lt, le)))) (deps_at graph k) (deps_before graph is k) in
      record {
        as_many = length-append needs (need ∷ []) ∙ omega (arith, so_far.as_many);
        later = λ k lt. elim (cases_lt k at) [
          | inl l ↦ ap is_later (old k l) ∙ so_far.later k l ∙ ap not (sym (same k (omega (arith, l))))
          | inr l ↦
              let e : at ≡ k = omega (arith, l, lt) in
              subst (λ (i : ℕ). is_later (need_at more i) ≡ not (list_all (λ dep. is_fresh (need_at more dep)) (deps_at graph i))) e (ap is_later new ∙ later ∙ ap not (sym (same at (omega arith))))
        ];
        fresh = λ k lt. elim (cases_lt k at) [
          | inl l ↦ subst (λ (n : Need). is_later n ≡ false → IsTrue (is_fresh n) ↔ Fits k) (sym (old k l)) (so_far.fresh k l)
          | inr l ↦
              let e : at ≡ k = omega (arith, l, lt) in
              subst (λ (i : ℕ). is_later (need_at more i) ≡ false → IsTrue (is_fresh (need_at more i)) ↔ Fits i) e (subst (λ (n : Need). is_later n ≡ false → IsTrue (is_fresh n) ↔ Fits at) (sym new) fresh)
        ];
      }

  -- what is fresh fits
  fits_each : (end : ℕ) → ArePlannedTo graph Fits needs end → (deps : List ℕ) → All (λ dep. dep < end) deps → list_all (λ dep. is_fresh (need_at needs dep)) deps ≡ true → All Fits deps
  fits_each end so_far [] below h = All-nil Fits
  fits_each end so_far (dep ∷ deps) below h =
      let parts = and_parts (is_fresh (need_at needs dep)) (list_all (λ dep. is_fresh (need_at needs dep)) deps) h in
      let here = so_far.fresh dep (All-head (λ d. d < end) dep deps below) (fresh_not_later (need_at needs dep) parts.0) in
      All-cons Fits dep deps (here.0 parts.0) (fits_each end so_far deps (All-tail (λ d. d < end) dep deps below) parts.1)

  -- all that a file depends on fits where it is fresh
  pub fits_deps : (at : ℕ) → ArePlannedTo graph Fits needs at → list_all (λ dep. is_fresh (need_at needs dep)) (deps_at graph at) ≡ true → All Fits (deps_at graph at)
  fits_deps at so_far h = fits_each at so_far (deps_at graph at) (deps_before graph is at) h
