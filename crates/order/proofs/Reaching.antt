-- What a file depends on, directly or not, in an order: a step at a time, over ways, and from file to file.
use Rattle.std.proofs.Common.{◌≡◌, ◌≢◌, ℕ, zero, suc, ◌<◌, ◌≤◌, ◌==◌, Bool, true, false, ◌||◌, List, [], ◌∷◌, length, get_or, take, refl, sym, ap, subst, ◌∙◌, arith, inl, inr}
use Rattle.std.specs.Prelude.{Contains}
use Rattle.std.specs.List.{list_any}
use Rattle.std.proofs.lemmas.Bool.{cases_Bool, cases_eq, cases_lt, eq-eqb, eqb-true, false≢true, or_left}
use Rattle.std.proofs.lemmas.List.{length-take-le, get_or_default, get_or-take}
use Rattle.order.specs.BuildOrder.{deps_in, IsBuildOrder}
use Rattle.order.specs.LinkedGraph.{reaches_within, reaches, IsWay}
use Rattle.order.proofs.Finds.{Contains-later, Contains-first}

pub any_same : {X : Type 0} (p q : X → Bool) (xs : List X) → ((x : X) → Contains xs x → p x ≡ q x) → list_any p xs ≡ list_any q xs
any_same p q [] same = refl
any_same {X} p q (x ∷ xs) same =
    ap (λ (b : Bool). b || list_any p xs) (same x (Contains-first x xs)) ∙ ap (λ (b : Bool). q x || b) (any_same p q xs (λ (y : X) (there : Contains xs y). same y (Contains-later x y xs there)))

none_any : {X : Type 0} (p : X → Bool) (xs : List X) → ((x : X) → Contains xs x → ⊥) → list_any p xs ≡ false
none_any p [] none = refl
none_any p (x ∷ xs) none = absurd (none x (Contains-first x xs))

or_parts : (a b : Bool) → (a || b) ≡ true → b ≡ false → a ≡ true
or_parts true b is fails = refl
or_parts false b is fails = absurd (false≢true (sym fails ∙ is))

or_second : (a b : Bool) → b ≡ true → (a || b) ≡ true
or_second true b does = refl
or_second false b does = does

pub any_there : {X : Type 0} (p : X → Bool) (xs : List X) (x : X) → Contains xs x → p x ≡ true → list_any p xs ≡ true
any_there p [] x there does = absurd (omega (arith, there.1))
any_there p (y ∷ ys) x (zero, lt, is) does = or_left (p y) (list_any p ys) (ap p is ∙ does)
any_there p (y ∷ ys) x (suc k, lt, is) does = or_second (p y) (list_any p ys) (any_there p ys x (k, omega arith, is) does)

pub some_there : {X : Type 0} (p : X → Bool) (xs : List X) → list_any p xs ≡ true → (x : X) × Contains xs x × (p x ≡ true)
some_there p [] some = absurd (false≢true some)
some_there {X} p (y ∷ ys) some =
    elim (cases_Bool (p y)) [
      | inl does ↦ (y, Contains-first y ys, does)
      | inr fails ↦ let found = some_there p ys (sym (ap (λ (b : Bool). b || list_any p ys) fails) ∙ some) in (found.0, Contains-later y found.0 ys found.1, found.2)
    ]

-- over a way there is a file, and back
way_from : (edges : List (List ℕ)) (steps file other : ℕ) → reaches_within edges steps file other ≡ true → (way : List ℕ) × IsWay edges file way other
unfolding reaches_within
way_from edges zero file other reached = absurd (false≢true reached)
way_from edges (suc steps) file other reached =
    let found = some_there (λ dep. (dep == other) || reaches_within edges steps dep other) (deps_in edges file) reached in
    elim (cases_Bool (reaches_within edges steps found.0 other)) [
      | inl further ↦ let rest = way_from edges steps found.0 other further in (found.0 ∷ rest.0, (found.1, rest.1))
      | inr ends ↦ ([], subst (Contains (deps_in edges file)) (eqb-true found.0 other (or_parts (found.0 == other) (reaches_within edges steps found.0 other) found.2 ends)) found.1)
    ]

module _ (edges : List (List ℕ)) (order : List ℕ) (is : IsBuildOrder edges order) where
  -- what the file at a rank depends on is at an earlier rank
  pub dep_rank : (rank : ℕ) → rank < length order → (dep : ℕ) → Contains (deps_in edges (get_or order rank 0)) dep → (earlier : ℕ) × (earlier < rank) × (get_or order earlier 0 ≡ dep)
  dep_rank rank lt dep there =
      let before : Contains (take rank order) dep = subst (Contains (take rank order)) there.2 (is.after rank lt there.0 dep there.1) in
      let low : before.0 < rank = omega (arith, before.1, length-take-le rank order (omega (arith, lt))) in
      (before.0, low, get_or_default order before.0 0 dep (omega (arith, lt)) ∙ sym (get_or-take rank order before.0 dep low) ∙ before.2)

  -- all numbers of steps that are at least a file's rank give the same answer
  settled : (s t rank other : ℕ) → rank < length order → rank ≤ s → rank ≤ t → reaches_within edges s (get_or order rank 0) other ≡ reaches_within edges t (get_or order rank 0) other
  unfolding reaches_within
  settled zero zero rank other lt low high = refl
  settled zero (suc t) rank other lt low high =
      sym (none_any (λ dep. (dep == other) || reaches_within edges t dep other) (deps_in edges (get_or order rank 0)) (λ dep there. let earlier = dep_rank rank lt dep there in omega (arith, earlier.1)))
  settled (suc s) zero rank other lt low high =
      none_any (λ dep. (dep == other) || reaches_within edges s dep other) (deps_in edges (get_or order rank 0)) (λ dep there. let earlier = dep_rank rank lt dep there in omega (arith, earlier.1))
  settled (suc s) (suc t) rank other lt low high =
      any_same (λ dep. (dep == other) || reaches_within edges s dep other) (λ dep. (dep == other) || reaches_within edges t dep other) (deps_in edges (get_or order rank 0)) (λ dep there.
      let earlier = dep_rank rank lt dep there in
      let below_s : earlier.0 ≤ s = omega (arith, earlier.1) in
      let below_t : earlier.0 ≤ t = omega (arith, earlier.1) in
      let inside : earlier.0 < length order = omega (arith, earlier.1) in
      ap (λ (b : Bool). (dep == other) || b) (subst (λ (d : ℕ). reaches_within edges s d other ≡ reaches_within edges t d other) earlier.2 (settled s t earlier.0 other inside below_s below_t)))

  -- a step at a time
  pub reaches_by_step : (rank other : ℕ) → rank < length order → reaches edges (get_or order rank 0) other ≡ list_any (λ dep. (dep == other) || reaches edges dep other) (deps_in edges (get_or order rank 0))
  unfolding reaches_within
  reaches_by_step rank other lt = by_steps (length edges) refl where
    by_steps : (n : ℕ) → n ≡ length edges → reaches_within edges n (get_or order rank 0) other ≡ list_any (λ dep. (dep == other) || reaches_within edges n dep other) (deps_in edges (get_or order rank 0))
    by_steps zero e = absurd (omega (arith, is.count))
    by_steps (suc n) e =
        any_same (λ dep. (dep == other) || reaches_within edges n dep other) (λ dep. (dep == other) || reaches_within edges (suc n) dep other) (deps_in edges (get_or order rank 0)) (λ dep there.
        let earlier = dep_rank rank lt dep there in
        let low : earlier.0 ≤ n = omega (arith, earlier.1, is.count) in
        let high : earlier.0 ≤ suc n = omega (arith, earlier.1, is.count) in
        let inside : earlier.0 < length order = omega (arith, earlier.1) in
        ap (λ (b : Bool). (dep == other) || b) (subst (λ (d : ℕ). reaches_within edges n d other ≡ reaches_within edges (suc n) d other) earlier.2 (settled n (suc n) earlier.0 other inside low high)))

  pub reaches_dep : (rank dep other : ℕ) → rank < length order → Contains (deps_in edges (get_or order rank 0)) dep → ((dep == other) || reaches edges dep other) ≡ true → reaches edges (get_or order rank 0) other ≡ true
  reaches_dep rank dep other lt there does =
      reaches_by_step rank other lt ∙ any_there (λ d. (d == other) || reaches edges d other) (deps_in edges (get_or order rank 0)) dep there does

  pub dep_reaching : (rank other : ℕ) → rank < length order → reaches edges (get_or order rank 0) other ≡ true → (dep : ℕ) × Contains (deps_in edges (get_or order rank 0)) dep × (((dep == other) || reaches edges dep other) ≡ true)
  dep_reaching rank other lt reached =
      some_there (λ d. (d == other) || reaches edges d other) (deps_in edges (get_or order rank 0)) (sym (reaches_by_step rank other lt) ∙ reached)

  pub way_reaches : (way : List ℕ) (rank other : ℕ) → rank < length order → IsWay edges (get_or order rank 0) way other → reaches edges (get_or order rank 0) other ≡ true
  way_reaches [] rank other lt there = reaches_dep rank other other lt there (or_left (other == other) (reaches edges other other) (eq-eqb other other refl))
  way_reaches (next ∷ rest) rank other lt (there, further) =
      let earlier = dep_rank rank lt next there in
      let inside : earlier.0 < length order = omega (arith, earlier.1) in
      let reached : reaches edges next other ≡ true = subst (λ (f : ℕ). reaches edges f other ≡ true) earlier.2 (way_reaches rest earlier.0 other inside (subst (λ (f : ℕ). IsWay edges f rest other) (sym earlier.2) further)) in
      reaches_dep rank next other lt there (or_second (next == other) (reaches edges next other) reached)

  -- what is reached is at an earlier rank
  pub reached_before : (bound rank at : ℕ) → rank < bound → rank < length order → at < length order → reaches edges (get_or order rank 0) (get_or order at 0) ≡ true → at < rank
  reached_before zero rank at under lt low reached = absurd (omega arith)
  reached_before (suc bound) rank at under lt low reached =
      let dep = dep_reaching rank (get_or order at 0) lt reached in
      let earlier = dep_rank rank lt dep.0 dep.1 in
      let inside : earlier.0 < length order = omega (arith, earlier.1) in
      elim (cases_Bool (reaches edges dep.0 (get_or order at 0))) [
        | inl further ↦
            let next : at < earlier.0 = reached_before bound earlier.0 at (omega (arith, earlier.1)) inside low (subst (λ (f : ℕ). reaches edges f (get_or order at 0) ≡ true) (sym earlier.2) further) in
            omega (arith, next, earlier.1)
        | inr ends ↦
            let same : get_or order earlier.0 0 ≡ get_or order at 0 = earlier.2 ∙ eqb-true dep.0 (get_or order at 0) (or_parts (dep.0 == get_or order at 0) (reaches edges dep.0 (get_or order at 0)) dep.2 ends) in
            elim (cases_eq earlier.0 at) [
              | inl e ↦ omega (arith, earlier.1)
              | inr ne ↦ absurd (apart earlier.0 at ne inside low same)
            ]
      ] where
        apart : (i j : ℕ) → i ≢ j → i < length order → j < length order → get_or order i 0 ≡ get_or order j 0 → ⊥
        apart i j ne a b same = elim (cases_lt i j) [
          | inl l ↦ is.distinct i j 0 l b same
          | inr l ↦ is.distinct j i 0 (omega arith) a (sym same)
        ]

  -- and what that reaches is reached
  pub reaches_on : (bound rank mid other : ℕ) → rank < bound → rank < length order → reaches edges (get_or order rank 0) mid ≡ true → reaches edges mid other ≡ true → reaches edges (get_or order rank 0) other ≡ true
  reaches_on zero rank mid other under lt first then = absurd (omega arith)
  reaches_on (suc bound) rank mid other under lt first then =
      let dep = dep_reaching rank mid lt first in
      let earlier = dep_rank rank lt dep.0 dep.1 in
      let inside : earlier.0 < length order = omega (arith, earlier.1) in
      elim (cases_Bool (reaches edges dep.0 mid)) [
        | inl further ↦
            let whole : reaches edges dep.0 other ≡ true = subst (λ (f : ℕ). reaches edges f other ≡ true) earlier.2
            (reaches_on bound earlier.0 mid other (omega (arith, earlier.1)) inside (subst (λ (f : ℕ). reaches edges f mid ≡ true) (sym earlier.2) further) then) in
            reaches_dep rank dep.0 other lt dep.1 (or_second (dep.0 == other) (reaches edges dep.0 other) whole)
        | inr ends ↦
            let same : dep.0 ≡ mid = eqb-true dep.0 mid (or_parts (dep.0 == mid) (reaches edges dep.0 mid) dep.2 ends) in
            reaches_dep rank dep.0 other lt dep.1 (or_second (dep.0 == other) (reaches edges dep.0 other) (subst (λ (f : ℕ). reaches edges f other ≡ true) (sym same) then))
      ]

-- a file reaches another exactly where there is a way to it
pub reaches_is_way : (edges : List (List ℕ)) (order : List ℕ) → IsBuildOrder edges order → (file other : ℕ) → file < length edges → (reaches edges file other ≡ true → (way : List ℕ) × IsWay edges file way other) × ((way : List ℕ) → IsWay edges file way other → reaches edges file other ≡ true)
reaches_is_way edges order is file other lt =
    let there : Contains order file = is.every file lt in
    let at : get_or order there.0 0 ≡ file = get_or_default order there.0 0 file there.1 ∙ there.2 in (
      way_from edges (length edges) file other,
      λ way along. subst (λ (f : ℕ). reaches edges f other ≡ true) at (way_reaches edges order is way there.0 other there.1 (subst (λ (f : ℕ). IsWay edges f way other) (sym at) along)),
    )
