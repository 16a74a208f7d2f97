-- One token more of a clause.
use Rattle.std.proofs.Common.{◌≡◌, ◌≢◌, ℕ, ◌+◌, ◌<◌, Bool, true, false, cond, not, ◌&&◌, ◌||◌, List, [], ◌∷◌, ◌⊎◌, inl, inr, length, refl, sym, ◌∙◌, ap, subst, arith}
use Rattle.std.specs.List.{list_any}
use Rattle.base.specs.declared.design.Role.{Role}
use Rattle.base.specs.declared.design.Role.TheVariants.{Library, Use, Context, Is, Semicolon}
use Rattle.vhdl_spec.specs.Units.{role_at}
use Rattle.vhdl_spec.specs.References.{back_to, ends_item, is_context_word, is_library_word, is_semicolon, is_use_word, lists_names}
use Rattle.vhdl_spec.proofs.Backwards.{back_more}
use Rattle.vhdl_outline.specs.Clauses.{IsClauseAt}
use Rattle.vhdl_outline.specs.declared.clause.Clause.{Clause}

any_of : (test : Role → Bool) (end : Bool) (role : Role) (roles : List Role) → list_any test (cond (not end) (role ∷ roles) []) ≡ (not end && (test role || list_any test roles))
any_of test true role roles = refl
any_of test false role roles = refl

module _ (roles : List Role) (at : ℕ) (role : Role) (within : at < length roles) (is : role_at roles at ≡ role) where
  back : (ends : Role → Bool) → back_to ends roles (at + 1) ≡ cond (not (ends role)) (role ∷ back_to ends roles at) []
  back ends = subst (λ (r : Role). back_to ends roles (at + 1) ≡ cond (not (ends r)) (r ∷ back_to ends roles at) []) is (back_more ends roles at within)

  any_more : (test ends : Role → Bool) → list_any test (back_to ends roles (at + 1)) ≡ (not (ends role) && (test role || list_any test (back_to ends roles at)))
  any_more test ends = ap (list_any test) (back ends) ∙ any_of test (ends role) role (back_to ends roles at)

  ended : (ends : Role → Bool) → ends role ≡ true → back_to ends roles (at + 1) ≡ []
  ended ends end = back ends ∙ ap (λ (b : Bool). cond (not b) (role ∷ back_to ends roles at) []) end

  -- the token isn't `;`
  pub clause_goes_on : (clause : Clause) (listing using context library : Bool) → IsClauseAt roles at clause → is_semicolon role ≡ false → (lists_names role || clause.lists_names) ≡ listing → (is_use_word role || clause.has_use) ≡ using → (not (ends_item role) && (is_context_word role || clause.has_context)) ≡ context → (is_library_word role || clause.has_library) ≡ library → IsClauseAt roles (at + 1) (record { lists_names = listing; has_use = using; has_context = context; has_library = library; start = clause.start })
  clause_goes_on clause listing using context library before goes names uses contexts libraries = record {
    lists_names = sym names ∙ ap (λ (b : Bool). lists_names role || b) before.lists_names ∙ sym (since lists_names);
    has_use = sym uses ∙ ap (λ (b : Bool). is_use_word role || b) before.has_use ∙ sym (since is_use_word);
    has_context = sym contexts ∙ ap (λ (b : Bool). not (ends_item role) && (is_context_word role || b)) before.has_context ∙ sym (any_more is_context_word ends_item);
    has_library = sym libraries ∙ ap (λ (b : Bool). is_library_word role || b) before.has_library ∙ sym (since is_library_word);
    start = let longer = ap length kept in omega (arith, before.start);
    within = let so_far = before.within in omega arith;
  } where
    since : (test : Role → Bool) → list_any test (back_to is_semicolon roles (at + 1)) ≡ (test role || list_any test (back_to is_semicolon roles at))
    since test = any_more test is_semicolon ∙ ap (λ (b : Bool). not b && (test role || list_any test (back_to is_semicolon roles at))) goes

    kept : back_to is_semicolon roles (at + 1) ≡ role ∷ back_to is_semicolon roles at
    kept = back is_semicolon ∙ ap (λ (b : Bool). cond (not b) (role ∷ back_to is_semicolon roles at) []) goes

  pub clause_ends : role ≡ Semicolon → IsClauseAt roles (at + 1) (record { lists_names = false; has_use = false; has_context = false; has_library = false; start = at + 1 })
  clause_ends semicolon =
      let none = ended is_semicolon (ap is_semicolon semicolon) in
      let no_item = ended ends_item (ap ends_item semicolon) in
      record {
        lists_names = sym (ap (list_any lists_names) none);
        has_use = sym (ap (list_any is_use_word) none);
        has_context = sym (ap (list_any is_context_word) no_item);
        has_library = sym (ap (list_any is_library_word) none);
        start = let empty = ap length none in omega arith;
        within = omega arith;
      }

-- ## Tokens that no rule of clauses names

pub not_semicolon : (role : Role) → role ≢ Semicolon → is_semicolon role ≡ false
not_semicolon Semicolon other = absurd (other refl)
not_semicolon _ other = refl

pub not_end : (role : Role) → role ≢ Semicolon → role ≢ Is → ends_item role ≡ false
not_end Semicolon other no_is = absurd (other refl)
not_end Is other no_is = absurd (no_is refl)
not_end _ other no_is = refl

pub not_listing : (role : Role) → role ≢ Use → role ≢ Context → lists_names role ≡ false
not_listing Use no_use no_context = absurd (no_use refl)
not_listing Context no_use no_context = absurd (no_context refl)
not_listing _ no_use no_context = refl

pub not_use : (role : Role) → role ≢ Use → is_use_word role ≡ false
not_use Use other = absurd (other refl)
not_use _ other = refl

pub not_context : (role : Role) → role ≢ Context → is_context_word role ≡ false
not_context Context other = absurd (other refl)
not_context _ other = refl

pub not_library : (role : Role) → role ≢ Library → is_library_word role ≡ false
not_library Library other = absurd (other refl)
not_library _ other = refl

-- ## The first token of a clause

-- nothing or a `;` is before the token
abbrev pub BeginsClause : List Role → ℕ → Type 0
BeginsClause roles at = (at ≡ 0) ⊎ ((before : ℕ) × (before < length roles) × (role_at roles before ≡ Semicolon) × (at ≡ before + 1))

pub clause_begins : (roles : List Role) (at : ℕ) → BeginsClause roles at → IsClauseAt roles at (record { lists_names = false; has_use = false; has_context = false; has_library = false; start = at })
clause_begins roles at (inl first) = subst (λ (n : ℕ). IsClauseAt roles n (record { lists_names = false; has_use = false; has_context = false; has_library = false; start = n })) (sym first) (record { lists_names = refl; has_use = refl; has_context = refl; has_library = refl; start = refl; within = omega arith })
clause_begins roles at (inr after) = subst (λ (n : ℕ). IsClauseAt roles n (record { lists_names = false; has_use = false; has_context = false; has_library = false; start = n })) (sym after.3) (clause_ends roles after.0 (role_at roles after.0) after.1 refl after.2)
