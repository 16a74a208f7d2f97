-- The sets of visible libraries: they grow, they are the least, and they stop growing.
use Rattle.std.proofs.Common.{◌≡◌, ℕ, zero, suc, ◌+◌, ◌-◌, ◌*◌, ◌≤◌, true, ◌&&◌, ◌||◌, not, ◌⊎◌, inl, inr, List, [], ◌∷◌, ◌++◌, length, Contains, refl, sym, ap, subst, arith}
use Rattle.std.specs.List.{flat_map, list_any}
use Rattle.std.specs.Str.{bytes_eq}
use Rattle.std.proofs.Common.{length-append}
use Rattle.std.proofs.lemmas.Bool.{cases_lt}
use Rattle.std.proofs.lemmas.Slice.Eq.{bytes_eq-Decides}
use Rattle.std.proofs.lemmas.List.Elements.{Contains-append_left, Contains-append_right}
use Rattle.base.specs.declared.refs.Ref.{Ref}
use Rattle.vhdl_spec.specs.Visibility.{ScopeUnit, Sets, AreClosed, is_implicit, belongs_to, is_context_of, has_by_owner, has_by_context, grown, seen_after, enough_steps}
use Rattle.vhdl_spec.proofs.SomeTests.{or_cases, or_first, or_second, and_cases, and_both, any_weaker, some_of, Contains-first, Contains-later}
use Rattle.vhdl_spec.proofs.Pigeons.{rests}

module _ (units : List ScopeUnit) where
  -- what the one has for each unit of the list the other has
  abbrev pub IsWithin : Sets → Sets → Type 0
  IsWithin f g = (user : ScopeUnit) (name : List ℕ) → Contains units user → f user name ≡ true → g user name ≡ true

  owner_weaker : (f g : Sets) (user : ScopeUnit) (name : List ℕ) → IsWithin f g → has_by_owner units f user name ≡ true → has_by_owner units g user name ≡ true
  owner_weaker f g user name within =
      any_weaker (λ owner. belongs_to user owner && f owner name) (λ owner. belongs_to user owner && g owner name) units
      (λ owner there both. let is = and_cases (belongs_to user owner) (f owner name) both in and_both (belongs_to user owner) (g owner name) is.0 (within owner name there is.1))

  context_weaker : (f g : Sets) (user : ScopeUnit) (name : List ℕ) → Contains units user → IsWithin f g → has_by_context units f user name ≡ true → has_by_context units g user name ≡ true
  context_weaker f g user name among within has =
      let parts = and_cases (not (is_implicit name)) (list_any (λ ref. f user ref.library && list_any (λ context. is_context_of user ref context && f context name) units) user.contexts) has in
      and_both (not (is_implicit name)) (list_any (λ ref. g user ref.library && list_any (λ context. is_context_of user ref context && g context name) units) user.contexts) parts.0
      (any_weaker (λ ref. f user ref.library && list_any (λ context. is_context_of user ref context && f context name) units) (λ ref. g user ref.library && list_any (λ context. is_context_of user ref context && g context name) units) user.contexts by_ref parts.1) where
        by_context : (ref : Ref) → list_any (λ context. is_context_of user ref context && f context name) units ≡ true → list_any (λ context. is_context_of user ref context && g context name) units ≡ true
        by_context ref =
            any_weaker (λ context. is_context_of user ref context && f context name) (λ context. is_context_of user ref context && g context name) units
            (λ context there both. let is = and_cases (is_context_of user ref context) (f context name) both in and_both (is_context_of user ref context) (g context name) is.0 (within context name there is.1))

        by_ref : (ref : Ref) → Contains user.contexts ref → (f user ref.library && list_any (λ context. is_context_of user ref context && f context name) units) ≡ true → (g user ref.library && list_any (λ context. is_context_of user ref context && g context name) units) ≡ true
        by_ref ref there both =
            let is = and_cases (f user ref.library) (list_any (λ context. is_context_of user ref context && f context name) units) both in
            and_both (g user ref.library) (list_any (λ context. is_context_of user ref context && g context name) units) (within user ref.library among is.0) (by_context ref is.1)

  pub grown_weaker : (f g : Sets) (user : ScopeUnit) (name : List ℕ) → Contains units user → IsWithin f g → grown units f user name ≡ true → grown units g user name ≡ true
  grown_weaker f g user name among within has =
      elim (or_cases (f user name || has_by_owner units f user name) (has_by_context units f user name) has) [
        | inl before ↦ or_first (g user name || has_by_owner units g user name) (has_by_context units g user name) (elim (or_cases (f user name) (has_by_owner units f user name) before) [
          | inl already ↦ or_first (g user name) (has_by_owner units g user name) (within user name among already)
          | inr primary ↦ or_second (g user name) (has_by_owner units g user name) (owner_weaker f g user name within primary)
        ])
        | inr context ↦ or_second (g user name || has_by_owner units g user name) (has_by_context units g user name) (context_weaker f g user name among within context)
      ]

  pub one_step_more : (f : Sets) (user : ScopeUnit) (name : List ℕ) → f user name ≡ true → grown units f user name ≡ true
  one_step_more f user name has = or_first (f user name || has_by_owner units f user name) (has_by_context units f user name) (or_first (f user name) (has_by_owner units f user name) has)

  pub least : (sets : Sets) → AreClosed units sets → (steps : ℕ) → IsWithin (seen_after units steps) sets
  unfolding seen_after
  least sets closed zero user name among seen = closed.own user name among seen
  least sets closed (suc steps) user name among seen = closed.grown user name among (grown_weaker (seen_after units steps) sets user name among (least sets closed steps) seen)

-- ## The sets stop growing

-- a unit with each name
with_names : ScopeUnit → List (List ℕ) → List (ScopeUnit × List ℕ)
with_names unit [] = []
with_names unit (name ∷ names) = (unit, name) ∷ with_names unit names

-- each unit with each name
pairs : List ScopeUnit → List (List ℕ) → List (ScopeUnit × List ℕ)
pairs [] names = []
pairs (unit ∷ units) names = with_names unit names ++ pairs units names

length-with_names : (unit : ScopeUnit) (names : List (List ℕ)) → length (with_names unit names) ≡ length names
unfolding with_names
length-with_names unit [] = refl
length-with_names unit (name ∷ names) = ap suc (length-with_names unit names)

length-pairs : (units : List ScopeUnit) (names : List (List ℕ)) → length (pairs units names) ≡ length units * length names
unfolding pairs
length-pairs [] names = omega arith
length-pairs (unit ∷ units) names =
    let rest = length-pairs units names in
    let front = length-with_names unit names in
    let joined = length-append (with_names unit names) (pairs units names) in
    omega arith

in_with_names : (unit : ScopeUnit) (name : List ℕ) (names : List (List ℕ)) → Contains names name → Contains (with_names unit names) (unit, name)
unfolding with_names
in_with_names unit name [] (k, within, is) = absurd (omega arith)
in_with_names unit name (first ∷ names) (zero, within, is) = subst (λ (n : List ℕ). Contains ((unit, first) ∷ with_names unit names) (unit, n)) is (Contains-first (unit, first) (with_names unit names))
in_with_names unit name (first ∷ names) (suc k, within, is) = Contains-later (unit, first) (unit, name) (with_names unit names) (in_with_names unit name names (k, omega arith, is))

in_pairs : (unit : ScopeUnit) (name : List ℕ) (units : List ScopeUnit) (names : List (List ℕ)) → Contains units unit → Contains names name → Contains (pairs units names) (unit, name)
unfolding pairs
in_pairs unit name [] names (k, within, is) named = absurd (omega arith)
in_pairs unit name (first ∷ units) names (zero, within, is) named =
    subst (λ (u : ScopeUnit). Contains (with_names first names ++ pairs units names) (u, name)) is (Contains-append_left (with_names first names) (pairs units names) (first, name) (in_with_names first name names named))
in_pairs unit name (first ∷ units) names (suc k, within, is) named =
    Contains-append_right (with_names first names) (pairs units names) (unit, name) (in_pairs unit name units names (k, omega arith, is) named)

has_name : (name : List ℕ) (names : List (List ℕ)) → list_any (bytes_eq name) names ≡ true → Contains names name
has_name name names some = let found = some_of (bytes_eq name) names some in subst (Contains names) (sym ((bytes_eq-Decides name found.0).0 found.2)) found.1

in_all : (name : List ℕ) (user : ScopeUnit) (units : List ScopeUnit) → Contains units user → Contains user.names name → Contains (flat_map (λ unit. unit.names) units) name
in_all name user [] (k, within, is) named = absurd (omega arith)
in_all name user (first ∷ units) (zero, within, is) named = Contains-append_left first.names (flat_map (λ unit. unit.names) units) name (subst (λ (unit : ScopeUnit). Contains unit.names name) (sym is) named)
in_all name user (first ∷ units) (suc k, within, is) named = Contains-append_right first.names (flat_map (λ unit. unit.names) units) name (in_all name user units (k, omega arith, is) named)

-- names of the units' clauses, and no others
module _ (units : List ScopeUnit) where
  abbrev IsKnown : List ℕ → Type 0
  IsKnown name = (is_implicit name ≡ true) ⊎ Contains (flat_map (λ unit. unit.names) units) name

  -- what another unit of the list has is known
  abbrev AllKnown : Sets → Type 0
  AllKnown sets = (unit : ScopeUnit) (name : List ℕ) → Contains units unit → sets unit name ≡ true → IsKnown name

  known_by_owner : (sets : Sets) (user : ScopeUnit) (name : List ℕ) → AllKnown sets → has_by_owner units sets user name ≡ true → IsKnown name
  known_by_owner sets user name known has =
      let found = some_of (λ owner. belongs_to user owner && sets owner name) units has in
      known found.0 name found.1 (and_cases (belongs_to user found.0) (sets found.0 name) found.2).1

  known_by_context : (sets : Sets) (user : ScopeUnit) (name : List ℕ) → AllKnown sets → has_by_context units sets user name ≡ true → IsKnown name
  known_by_context sets user name known has =
      let some = (and_cases (not (is_implicit name)) (list_any (λ ref. sets user ref.library && list_any (λ context. is_context_of user ref context && sets context name) units) user.contexts) has).1 in
      let ref = some_of (λ ref. sets user ref.library && list_any (λ context. is_context_of user ref context && sets context name) units) user.contexts some in
      let parts = and_cases (sets user ref.0.library) (list_any (λ context. is_context_of user ref.0 context && sets context name) units) ref.2 in
      let found = some_of (λ context. is_context_of user ref.0 context && sets context name) units parts.1 in
      known found.0 name found.1 (and_cases (is_context_of user ref.0 found.0) (sets found.0 name) found.2).1

  only_known : (steps : ℕ) → AllKnown (seen_after units steps)
  unfolding seen_after
  only_known zero user name among seen =
      elim (or_cases (is_implicit name) (list_any (bytes_eq name) user.names) seen) [
        | inl given ↦ inl given
        | inr own ↦ inr (in_all name user units among (has_name name user.names own))
      ]
  only_known (suc steps) user name among seen =
      elim (or_cases (seen_after units steps user name || has_by_owner units (seen_after units steps) user name) (has_by_context units (seen_after units steps) user name) seen) [
        | inl before ↦ elim (or_cases (seen_after units steps user name) (has_by_owner units (seen_after units steps) user name) before) [
          | inl already ↦ only_known steps user name among already
          | inr primary ↦ known_by_owner (seen_after units steps) user name (only_known steps) primary
        ]
        | inr context ↦ known_by_context (seen_after units steps) user name (only_known steps) context
      ]

  -- no unit of the list gains a name in the step after
  abbrev Rest : ℕ → Type 0
  Rest steps = IsWithin units (seen_after units (suc steps)) (seen_after units steps)

  rest_later : (steps : ℕ) → Rest steps → Rest (suc steps)
  unfolding seen_after
  rest_later steps resting user name among seen = grown_weaker units (seen_after units (suc steps)) (seen_after units steps) user name among resting seen

  rest_at : (steps more total : ℕ) → total ≡ more + steps → Rest steps → Rest total
  rest_at steps zero total is resting = let same : steps ≡ total = omega arith in subst Rest same resting
  rest_at steps (suc more) total is resting =
      let next : suc (more + steps) ≡ total = omega arith in
      subst Rest next (rest_later (more + steps) (rest_at steps more (more + steps) refl resting))

  rest_from : (steps more total : ℕ) → total ≡ more + steps → Rest steps → IsWithin units (seen_after units total) (seen_after units steps)
  rest_from steps zero total is resting user name among seen =
      let same : total ≡ steps = omega arith in
      subst (λ (k : ℕ). seen_after units k user name ≡ true) same seen
  rest_from steps (suc more) total is resting user name among seen =
      let next : total ≡ suc (more + steps) = omega arith in
      rest_from steps more (more + steps) refl resting user name among (rest_at steps more (more + steps) refl resting user name among (subst (λ (k : ℕ). seen_after units k user name ≡ true) next seen))

  pub seen_later : (steps more total : ℕ) (user : ScopeUnit) (name : List ℕ) → total ≡ more + steps → seen_after units steps user name ≡ true → seen_after units total user name ≡ true
  unfolding seen_after
  seen_later steps zero total user name is seen = let same : steps ≡ total = omega arith in subst (λ (k : ℕ). seen_after units k user name ≡ true) same seen
  seen_later steps (suc more) total user name is seen =
      let next : suc (more + steps) ≡ total = omega arith in
      subst (λ (k : ℕ). seen_after units k user name ≡ true) next (one_step_more units (seen_after units (more + steps)) user name (seen_later steps more (more + steps) user name refl seen))

  implicit_seen : (steps : ℕ) (user : ScopeUnit) (name : List ℕ) → is_implicit name ≡ true → seen_after units steps user name ≡ true
  unfolding seen_after
  implicit_seen steps user name given = seen_later 0 steps steps user name (omega arith) (or_first (is_implicit name) (list_any (bytes_eq name) user.names) given)

  some_rest : (steps : ℕ) × (steps ≤ enough_steps units) × Rest steps
  some_rest =
      let found = rests (λ (k : ℕ) (pair : ScopeUnit × List ℕ). seen_after units k pair.0 pair.1) (pairs units (flat_map (λ unit. unit.names) units)) (λ k pair there seen. seen_later k 1 (suc k) pair.0 pair.1 (omega arith) seen) in
      let size = length-pairs units (flat_map (λ unit. unit.names) units) in
      (found.0, omega (arith, found.1), resting found.0 found.2) where
        resting : (k : ℕ) → ((pair : ScopeUnit × List ℕ) → Contains (pairs units (flat_map (λ unit. unit.names) units)) pair → seen_after units (suc k) pair.0 pair.1 ≡ true → seen_after units k pair.0 pair.1 ≡ true) → Rest k
        resting k stays user name among seen =
            elim (only_known (suc k) user name among seen) [
              | inl given ↦ implicit_seen k user name given
              | inr known ↦ stays (user, name) (in_pairs user name units (flat_map (λ unit. unit.names) units) among known) seen
            ]

  -- no set grows after enough steps
  pub enough : (steps : ℕ) → IsWithin units (seen_after units steps) (seen_after units (enough_steps units))
  enough steps user name among seen =
      let found = some_rest in
      elim (cases_lt found.0 steps) [
        | inl past ↦ seen_later found.0 (enough_steps units - found.0) (enough_steps units) user name (omega (arith, found.1)) (rest_from found.0 (steps - found.0) steps (omega arith) found.2 user name among seen)
        | inr before ↦ seen_later steps (enough_steps units - steps) (enough_steps units) user name (omega (arith, found.1)) seen
      ]

  pub closed : AreClosed units (seen_after units (enough_steps units))
  unfolding seen_after
  closed = record {
    own = λ user name among has. seen_later 0 (enough_steps units) (enough_steps units) user name (omega arith) has;
    grown = λ user name among has. enough (suc (enough_steps units)) user name among has;
  }
