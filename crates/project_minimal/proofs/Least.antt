-- The files that tests need are the least set that has their files and what its own need.
use Rattle.std.proofs.Common.{◌≡◌, ℕ, zero, suc, ◌+◌, ◌-◌, ◌<◌, ◌≤◌, Bool, true, ◌&&◌, inl, inr, List, [], ◌∷◌, length, Contains, refl, sym, ◌∙◌, ap, subst, arith}
use Rattle.std.specs.List.{list_any}
use Rattle.base.specs.PresentGraph.{below}
use Rattle.base.proofs.Below.{length-below, get_or-below}
use Rattle.base_outcomes.specs.declared.bench.Bench.{Bench}
use Rattle.order.proofs.Finds.{in_below}
use Rattle.vhdl_spec.proofs.Pigeons.{rests}
use Rattle.vhdl_spec.proofs.SomeTests.{or_cases, or_first, or_second, and_cases, and_both, any_weaker, some_of}
use Rattle.project_minimal.specs.MinimalSet.{NeedSources, IsNeedy, grown, is_needed, is_tested, needed_after, needs}
use Rattle.project_minimal.specs.Needing.{HasGrown}
use Rattle.project_minimal.specs.Taking.{is_taken}
use Rattle.project_minimal.specs.declared.taken.Taken.{Taken}
use Rattle.project_minimal.proofs.Tests.{both_ways}

pub below_within : (n x : ℕ) → Contains (below n) x → x < n
below_within n x (k, within, is) = let low : k < n = omega (arith, within, length-below n) in omega (arith, sym (get_or-below n k x low) ∙ is)

pub some_passes : {X : Type 0} (p : X → Bool) (xs : List X) (x : X) → Contains xs x → p x ≡ true → list_any p xs ≡ true
some_passes p [] x (k, within, is) does = absurd (omega arith)
some_passes p (y ∷ ys) x (zero, within, is) does = or_first (p y) (list_any p ys) (ap p is ∙ does)
some_passes p (y ∷ ys) x (suc k, within, is) does = or_second (p y) (list_any p ys) (some_passes p ys x (k, omega arith, is) does)

module _ (said : NeedSources) (tests : List Bench) where
  abbrev count : ℕ
  count = length said.files

  -- what the one has of the project the other has
  abbrev IsWithin : (ℕ → Bool) → (ℕ → Bool) → Type 0
  IsWithin f g = (at : ℕ) → at < count → f at ≡ true → g at ≡ true

  grown_weaker : (f g : ℕ → Bool) → IsWithin f g → IsWithin (grown said f) (grown said g)
  grown_weaker f g within at low has =
      elim (or_cases (f at) (list_any (λ user. f user && needs said user at) (below count)) has) [
        | inl before ↦ or_first (g at) (list_any (λ user. g user && needs said user at) (below count)) (within at low before)
        | inr some ↦ or_second (g at) (list_any (λ user. g user && needs said user at) (below count))
            (any_weaker (λ user. f user && needs said user at) (λ user. g user && needs said user at) (below count)
            (λ user there both. let is = and_cases (f user) (needs said user at) both in and_both (g user) (needs said user at) (within user (below_within count user there) is.0) is.1) some)
      ]

  one_more : (steps : ℕ) → IsWithin (needed_after said tests steps) (needed_after said tests (suc steps))
  unfolding needed_after
  one_more steps at low has = or_first (needed_after said tests steps at) (list_any (λ user. needed_after said tests steps user && needs said user at) (below count)) has

  later : (steps more total : ℕ) → total ≡ more + steps → IsWithin (needed_after said tests steps) (needed_after said tests total)
  later steps zero total is at low has = let same : steps ≡ total = omega arith in subst (λ (k : ℕ). needed_after said tests k at ≡ true) same has
  later steps (suc more) total is at low has =
      let next : suc (more + steps) ≡ total = omega arith in
      subst (λ (k : ℕ). needed_after said tests k at ≡ true) next (one_more (more + steps) at low (later steps more (more + steps) refl at low has))

  abbrev Rest : ℕ → Type 0
  Rest steps = IsWithin (needed_after said tests (suc steps)) (needed_after said tests steps)

  rest_later : (steps : ℕ) → Rest steps → Rest (suc steps)
  unfolding needed_after
  rest_later steps resting = grown_weaker (needed_after said tests (suc steps)) (needed_after said tests steps) resting

  rest_at : (steps more total : ℕ) → total ≡ more + steps → Rest steps → Rest total
  rest_at steps zero total is resting = let same : steps ≡ total = omega arith in subst Rest same resting
  rest_at steps (suc more) total is resting =
      let next : suc (more + steps) ≡ total = omega arith in
      subst Rest next (rest_later (more + steps) (rest_at steps more (more + steps) refl resting))

  rests_there : Rest count
  rests_there =
      let found = rests (λ (k at : ℕ). needed_after said tests k at) (below count) (λ k at there has. one_more k at (below_within count at there) has) in
      let few : found.0 ≤ count = omega (arith, found.1, length-below count) in
      rest_at found.0 (count - found.0) count (omega (arith, few)) (λ at low has. found.2 at (in_below count at low) has)

  pub is_needy : IsNeedy said tests (is_needed said tests)
  unfolding needed_after
  is_needy = record {
    tested = λ at low is. later 0 count count (omega arith) at low is;
    grown = λ user used low within has needed.
        rests_there used within (or_second (is_needed said tests used) (list_any (λ other. is_needed said tests other && needs said other used) (below count))
        (some_passes (λ other. is_needed said tests other && needs said other used) (below count) user (in_below count user low) (and_both (is_needed said tests user) (needs said user used) has needed)));
  }

  pub least : (set : ℕ → Bool) → IsNeedy said tests set → (steps : ℕ) → IsWithin (needed_after said tests steps) set
  unfolding needed_after
  least set closed zero at low has = closed.tested at low has
  least set closed (suc steps) at low has =
      elim (or_cases (needed_after said tests steps at) (list_any (λ user. needed_after said tests steps user && needs said user at) (below count)) has) [
        | inl before ↦ least set closed steps at low before
        | inr some ↦
            let user = some_of (λ user. needed_after said tests steps user && needs said user at) (below count) some in
            let is = and_cases (needed_after said tests steps user.0) (needs said user.0 at) user.2 in
            let within : user.0 < count = below_within count user.0 user.1 in
            closed.grown user.0 at within low (least set closed steps user.0 within is.0) is.1
      ]

  -- what was taken from the files of tests is what they need
  pub decided : (old new : Taken) → ((at : ℕ) → is_taken old at ≡ true → at < count) → ((at : ℕ) → at < count → is_taken old at ≡ is_tested tests at) → HasGrown said old new → (at : ℕ) → at < count → is_taken new at ≡ is_needed said tests at
  decided old new within tested grew at low =
      both_ways (is_taken new at) (is_needed said tests at)
      (λ has. grew.least (is_needed said tests) (λ other taken. let in_it = within other taken in is_needy.tested other in_it (sym (tested other in_it) ∙ taken)) is_needy.grown at has)
      (λ needed. least (is_taken new) (record { tested = λ other in_it is. grew.kept other (tested other in_it ∙ is); grown = grew.all }) count at low needed)
