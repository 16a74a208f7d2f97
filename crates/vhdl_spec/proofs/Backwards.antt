-- The way back from a token to the nearest that ends it.
use Rattle.std.proofs.Common.{◌≡◌, ◌≢◌, ℕ, zero, suc, ◌+◌, ◌<◌, ◌≤◌, Bool, true, false, cond, not, ◌⊎◌, inl, inr, List, [], ◌∷◌, length, take, reverse, refl, sym, ◌∙◌, ap, subst, arith}
use Rattle.std.specs.List.{list_any, take_while}
use Rattle.std.proofs.lemmas.List.{take_more, reverse-append}
use Rattle.std.proofs.lemmas.List.Sums.{take_while-cons}
use Rattle.std.proofs.lemmas.Bool.{cases_lt}
use Rattle.base.specs.declared.design.Role.{Role}
use Rattle.base.specs.declared.design.Role.TheVariants.{Semicolon, Other}
use Rattle.vhdl_spec.specs.Units.{role_at}
use Rattle.vhdl_spec.specs.References.{BeginsClauseOf, IsBackAt, back_to, clause_start, is_semicolon}
use Rattle.vhdl_spec.proofs.SomeTests.{or_cases, or_first, or_second}

-- the token before comes first, unless it ends the way back
pub back_more : (ends : Role → Bool) (roles : List Role) (at : ℕ) → at < length roles → back_to ends roles (at + 1) ≡ cond (not (ends (role_at roles at))) (role_at roles at ∷ back_to ends roles at) []
back_more ends roles at within =
    let turned : reverse (take (at + 1) roles) ≡ role_at roles at ∷ reverse (take at roles) = ap reverse (take_more roles at Other within) ∙ reverse-append (take at roles) (role_at roles at ∷ []) in
    ap (take_while (λ role. not (ends role))) turned ∙ take_while-cons (λ role. not (ends role)) (role_at roles at) (reverse (take at roles))

module _ (ends : Role → Bool) (roles : List Role) where
  -- the token ends the way, or it is on it
  pub back_cases : (at : ℕ) → at < length roles → ((ends (role_at roles at) ≡ true) × (back_to ends roles (suc at) ≡ [])) ⊎ ((ends (role_at roles at) ≡ false) × (back_to ends roles (suc at) ≡ role_at roles at ∷ back_to ends roles at))
  back_cases at within =
      let next : at + 1 ≡ suc at = omega arith in
      by_test (ends (role_at roles at)) refl (subst (λ (n : ℕ). back_to ends roles n ≡ cond (not (ends (role_at roles at))) (role_at roles at ∷ back_to ends roles at) []) next (back_more ends roles at within)) where
        by_test : (end : Bool) → ends (role_at roles at) ≡ end → back_to ends roles (suc at) ≡ cond (not end) (role_at roles at ∷ back_to ends roles at) [] → ((ends (role_at roles at) ≡ true) × (back_to ends roles (suc at) ≡ [])) ⊎ ((ends (role_at roles at) ≡ false) × (back_to ends roles (suc at) ≡ role_at roles at ∷ back_to ends roles at))
        by_test true is back = inl (is, back)
        by_test false is back = inr (is, back)

  -- none ends the way before a token, nor there
  abbrev AreOpen : ℕ → ℕ → Type 0
  AreOpen start at = (between : ℕ) → start ≤ between → between < at → ends (role_at roles between) ≡ false

  open_more : (start at : ℕ) → AreOpen start at → ends (role_at roles at) ≡ false → AreOpen start (suc at)
  open_more start at so_far here between from below =
      elim (cases_lt between at) [
        | inl before ↦ so_far between from before
        | inr after ↦ let same : at ≡ between = omega arith in subst (λ (n : ℕ). ends (role_at roles n) ≡ false) same here
      ]

  module _ (test : Role → Bool) where
    pub back_gives : (at : ℕ) → at ≤ length roles → list_any test (back_to ends roles at) ≡ true → IsBackAt test ends roles at
    back_gives zero within some = let no : ⊥ = cc in absurd no
    back_gives (suc at) within some =
        elim (back_cases at (omega arith)) [
          | inl (end, empty) ↦ let none : list_any test (back_to ends roles (suc at)) ≡ false = ap (list_any test) empty in let no : ⊥ = cc in absurd no
          | inr (open_here, more) ↦ elim (or_cases (test (role_at roles at)) (list_any test (back_to ends roles at)) (sym (ap (list_any test) more) ∙ some)) [
            | inl here ↦ record { token_index = at; before = omega arith; passes = here; open_since = open_more at at (λ between from below. absurd (omega arith)) open_here }
            | inr later ↦ let found = back_gives at (omega arith) later in let before = found.before in record { token_index = found.token_index; before = omega arith; passes = found.passes; open_since = open_more found.token_index at found.open_since open_here }
          ]
        ]

    pub back_has : (at : ℕ) → at ≤ length roles → IsBackAt test ends roles at → list_any test (back_to ends roles at) ≡ true
    back_has zero within is = let before = is.before in absurd (omega arith)
    back_has (suc at) within is =
        let before = is.before in
        let open_here : ends (role_at roles at) ≡ false = is.open_since at (omega arith) (omega arith) in
        elim (back_cases at (omega arith)) [
          | inl (end, empty) ↦ let no : ⊥ = cc in absurd no
          | inr (open_too, more) ↦ ap (list_any test) more ∙ elim (cases_lt is.token_index at) [
            | inl earlier ↦ or_second (test (role_at roles at)) (list_any test (back_to ends roles at)) (back_has at (omega arith) (record { token_index = is.token_index; before = earlier; passes = is.passes; open_since = λ between from below. is.open_since between from (omega arith) }))
            | inr here ↦ let same : is.token_index ≡ at = omega arith in or_first (test (role_at roles at)) (list_any test (back_to ends roles at)) (subst (λ (n : ℕ). test (role_at roles n) ≡ true) same is.passes)
          ]
        ]

semicolon_is : (role : Role) → is_semicolon role ≡ true → role ≡ Semicolon
semicolon_is Semicolon is = refl
semicolon_is _ is = let no : ⊥ = cc in absurd no

later : (roles : List Role) (at : ℕ) → BeginsClauseOf roles (clause_start roles at) at → is_semicolon (role_at roles at) ≡ false → BeginsClauseOf roles (clause_start roles at) (suc at)
later roles at before open_here = record { within = let within = before.within in omega arith; after = before.after; open_since = open_here_too } where
  no_semicolon : (role : Role) → is_semicolon role ≡ false → role ≢ Semicolon
  no_semicolon role is semicolon = let other : is_semicolon role ≡ true = ap is_semicolon semicolon in cc

  open_here_too : (between : ℕ) → clause_start roles at ≤ between → between < suc at → role_at roles between ≢ Semicolon
  open_here_too between from below =
      elim (cases_lt between at) [
        | inl earlier ↦ before.open_since between from earlier
        | inr after ↦ let same : at ≡ between = omega arith in subst (λ (n : ℕ). role_at roles n ≢ Semicolon) same (no_semicolon (role_at roles at) open_here)
      ]

pub start_is : (roles : List Role) (at : ℕ) → at ≤ length roles → BeginsClauseOf roles (clause_start roles at) at
start_is roles zero within = record { within = omega arith; after = inl refl; open_since = λ between after before. absurd (omega arith) }
start_is roles (suc at) within =
    let before = start_is roles at (omega arith) in
    elim (back_cases is_semicolon roles at (omega arith)) [
      | inl (semicolon, empty) ↦ let none = ap length empty in let start : suc at ≡ clause_start roles (suc at) = omega arith in subst (λ (n : ℕ). BeginsClauseOf roles n (suc at)) start (record { within = omega arith; after = inr (at, omega arith, semicolon_is (role_at roles at) semicolon); open_since = λ between from below. absurd (omega arith) })
      | inr (open_here, more) ↦ let longer = ap length more in let same : clause_start roles at ≡ clause_start roles (suc at) = omega arith in subst (λ (n : ℕ). BeginsClauseOf roles n (suc at)) same (later roles at before open_here)
    ]
