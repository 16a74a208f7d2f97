-- What is taken is taken once and after what it depends on; where all is taken, that is an order; and where a step takes
-- nothing, no later one does.
use Rattle.std.proofs.Common.{◌≡◌, ◌≢◌, ℕ, zero, suc, ◌<◌, ◌≤◌, eqb, true, not, ◌⊎◌, Option, Some, None, List, [], ◌∷◌, ◌++◌, length, get_or, take, refl, sym, ap, subst, ◌∙◌, arith, inl, inr}
use Rattle.std.specs.Prelude.{Contains}
use Rattle.std.specs.List.{find, list_all, IsDistinct}
use Rattle.std.proofs.lemmas.Bool.{cases_Bool, cases_eq, cases_lt, and_parts, not-true, false≢true}
use Rattle.std.proofs.lemmas.Bool.Decides.{Decides-eqb}
use Rattle.std.proofs.lemmas.Cmp.{nat_eq_equiv}
use Rattle.std.proofs.lemmas.Map.Keys.{IsDistinct-push}
use Rattle.std.proofs.lemmas.Map.Made.{AllPairs-from_IsDistinct}
use Rattle.std.proofs.lemmas.Map.Steps.{length-le_from_distinct_below}
use Rattle.std.proofs.lemmas.List.{length-append, get_or_append_left, get_or_at, get_or_default, take-append-le, take_all}
use Rattle.std.proofs.lemmas.List.Sums.{AllPass-from_list_all}
use Rattle.base.specs.PresentGraph.{below}
use Rattle.order.specs.BuildOrder.{deps_in, has_taken, can_take, first_free, with_taken, taken_after, IsBuildOrder}
use Rattle.order.proofs.Finds.{found_passes, found_within, below_bounded}
use Rattle.order.proofs.Members.{taken_contains, contains_taken, taken_other}

module _ (edges : List (List ℕ)) where
  -- each once, and after what it depends on
  pub record IsTaken (taken : List ℕ) : Type 0 where
    pub distinct : IsDistinct eqb taken
    pub within : (file : ℕ) → has_taken taken file ≡ true → file < length edges
    pub after : (rank : ℕ) → rank < length taken → (dep : ℕ) → Contains (deps_in edges (get_or taken rank 0)) dep → has_taken (take rank taken) dep ≡ true

  nothing_taken : IsTaken []
  unfolding IsDistinct
  nothing_taken = record {
    distinct = tt;
    within = λ file h. absurd (false≢true h);
    after = λ rank lt. absurd (omega arith);
  }

  all_taken_of : (taken deps : List ℕ) (dep : ℕ) → list_all (has_taken taken) deps ≡ true → Contains deps dep → has_taken taken dep ≡ true
  all_taken_of taken deps dep all there = ap (has_taken taken) (sym there.2) ∙ AllPass-from_list_all (has_taken taken) deps all there.0 dep there.1

  one_more : (taken : List ℕ) (file : ℕ) → file < length edges → can_take edges taken file ≡ true → IsTaken taken → IsTaken (taken ++ file ∷ [])
  one_more taken file lt free is =
      let parts = and_parts (not (has_taken taken file)) (list_all (has_taken taken) (deps_in edges file)) free in
      record {
        distinct = IsDistinct-push nat_eq_equiv taken file is.distinct (not-true (has_taken taken file) parts.0);
        within = λ other h. elim (cases_eq other file) [
          | inl e ↦ omega arith
          | inr ne ↦ is.within other (sym (taken_other taken file other ne) ∙ h)
        ];
        after = λ rank low dep there. elim (cases_lt rank (length taken)) [
          | inl l ↦
              let here : Contains (deps_in edges (get_or taken rank 0)) dep = subst (λ (f : ℕ). Contains (deps_in edges f) dep) (get_or_append_left taken (file ∷ []) 0 rank l) there in
              ap (λ (xs : List ℕ). has_taken xs dep) (take-append-le rank taken (file ∷ []) (omega arith)) ∙ is.after rank l dep here
          | inr l ↦
              let e : length taken ≡ rank = omega (arith, low, length-append taken (file ∷ [])) in
              let here : Contains (deps_in edges file) dep = subst (λ (f : ℕ). Contains (deps_in edges f) dep) (get_or_at taken file [] 0 rank e) there in
              ap (λ (xs : List ℕ). has_taken xs dep) (take-append-le rank taken (file ∷ []) (omega arith) ∙ take_all rank taken (omega arith)) ∙ all_taken_of taken (deps_in edges file) dep parts.1 here
        ];
      }

  step_taken : (taken : List ℕ) (o : Option ℕ) → find (can_take edges taken) (below (length edges)) ≡ o → IsTaken taken → IsTaken (with_taken taken o)
  step_taken taken None none is = is
  step_taken taken (Some file) some is =
      one_more taken file (below_bounded (length edges) file (found_within (can_take edges taken) (below (length edges)) file some)) (found_passes (can_take edges taken) (below (length edges)) file some) is

  pub taken_so_far : (steps : ℕ) → IsTaken (taken_after edges steps)
  unfolding taken_after first_free
  taken_so_far zero = nothing_taken
  taken_so_far (suc steps) = step_taken (taken_after edges steps) (first_free edges (taken_after edges steps)) refl (taken_so_far steps)

  pub few_taken : (taken : List ℕ) → IsTaken taken → length taken ≤ length edges
  few_taken taken is = length-le_from_distinct_below taken (length edges) is.distinct is.within

  -- where all are taken, this is an order
  pub whole_order : (taken : List ℕ) → IsTaken taken → length taken ≡ length edges → IsBuildOrder edges taken
  whole_order taken is all = record {
    count = all;
    every = λ file lt. elim (cases_Bool (has_taken taken file)) [
      | inl has ↦ taken_contains taken file has
      | inr lacks ↦
          let distinct : IsDistinct eqb (taken ++ file ∷ []) = IsDistinct-push nat_eq_equiv taken file is.distinct lacks in
          let few : length (taken ++ file ∷ []) ≤ length edges = length-le_from_distinct_below (taken ++ file ∷ []) (length edges) distinct (λ other h. elim (cases_eq other file) [
            | inl e ↦ omega arith
            | inr ne ↦ is.within other (sym (taken_other taken file other ne) ∙ h)
          ]) in
          absurd (omega (arith, length-append taken (file ∷ [])))
    ];
    within = λ k d lt. is.within (get_or taken k d) (contains_taken taken (get_or taken k d) (k, lt, get_or_default taken k (get_or taken k d) d lt));
    distinct = AllPairs-from_IsDistinct Decides-eqb taken is.distinct;
    after = λ rank lt k d low. taken_contains (take rank taken) (get_or (deps_in edges (get_or taken rank 0)) k d)
        (is.after rank lt (get_or (deps_in edges (get_or taken rank 0)) k d) (k, low, get_or_default (deps_in edges (get_or taken rank 0)) k (get_or (deps_in edges (get_or taken rank 0)) k d) d low));
  }

  long_or_stuck_by : (taken : List ℕ) (steps : ℕ) (o : Option ℕ) → first_free edges taken ≡ o → length taken ≡ steps → (length (with_taken taken o) ≡ suc steps) ⊎ (first_free edges (with_taken taken o) ≡ None)
  long_or_stuck_by taken steps None none long = inr none
  long_or_stuck_by taken steps (Some file) some long = inl (omega (arith, length-append taken (file ∷ [])))

  -- each step took a file, or none can be taken
  long_or_stuck : (steps : ℕ) → (length (taken_after edges steps) ≡ steps) ⊎ (first_free edges (taken_after edges steps) ≡ None)
  unfolding taken_after
  long_or_stuck zero = inl refl
  long_or_stuck (suc steps) =
      elim (long_or_stuck steps) [
        | inl long ↦ long_or_stuck_by (taken_after edges steps) steps (first_free edges (taken_after edges steps)) refl long
        | inr stuck ↦ inr (ap (λ (o : Option ℕ). first_free edges (with_taken (taken_after edges steps) o)) stuck ∙ stuck)
      ]

  pub stuck : (steps : ℕ) → length (taken_after edges steps) ≢ steps → first_free edges (taken_after edges steps) ≡ None
  stuck steps short =
      elim (long_or_stuck steps) [
        | inl long ↦ absurd (short long)
        | inr none ↦ none
      ]
