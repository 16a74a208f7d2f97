-- Whether roles are equal can be decided, and what follows for the classes of tokens.
use Rattle.std.proofs.Common.{◌≡◌, ◌≢◌, ℕ, zero, suc, ◌+◌, ◌<◌, ◌≤◌, ◌⊎◌, Bool, true, false, List, [], ◌∷◌, length, slice_index_or, refl, sym, ◌∙◌, ap, inl, inr, ⊎_elim, arith}
use Rattle.std.specs.Prelude.{count_by, slice_range}
use Rattle.base.specs.declared.design.Role.{Role}
use Rattle.base.specs.declared.design.Role.TheVariants.{Library, Use, Context, Entity, Architecture, Configuration, Package, Body, Is, Of, New, Function, Procedure, Generate, End, If, For, Case, Elsif, Else, Component, Inner, All, Generic, Opening, Closing, Semicolon, Colon, Dot, Comma, Name, Other}
use Rattle.vhdl_spec.specs.Units.{role_at, is_opening, is_closing, IsLevel, IsNotAfter, MayOpen, BeginsPackage, IsPackageOpener, HasBody, IsSubprogramOpener, OpensItems, begins_generate, IsGenerateOpener, IsGenerateEnd, ends_inner, IsPlainEnd, Closes}
use Rattle.vhdl_spec.proofs.Search.{Decided, both, denied, same_bool, same_number, at_most, Largest, largest}
use Rattle.vhdl_spec.proofs.Forms.{each_from}
use Rattle.vhdl_spec.proofs.Files.{in_file}

-- ## Equal roles

all_roles : List Role
all_roles = Library ∷ Use ∷ Context ∷ Entity ∷ Architecture ∷ Configuration ∷ Package ∷ Body ∷ Is ∷ Of ∷ New ∷ Function ∷ Procedure ∷ Generate ∷ End ∷ If ∷ For ∷ Case ∷ Elsif ∷ Else ∷ Inner ∷ Opening ∷ Closing ∷ Semicolon ∷ Colon ∷ Dot ∷ Name ∷ Other ∷ Component ∷ All ∷ Generic ∷ Comma ∷ []

number_of : Role → ℕ
number_of Library = 0
number_of Use = 1
number_of Context = 2
number_of Entity = 3
number_of Architecture = 4
number_of Configuration = 5
number_of Package = 6
number_of Body = 7
number_of Is = 8
number_of Of = 9
number_of New = 10
number_of Function = 11
number_of Procedure = 12
number_of Generate = 13
number_of End = 14
number_of If = 15
number_of For = 16
number_of Case = 17
number_of Elsif = 18
number_of Else = 19
number_of Inner = 20
number_of Opening = 21
number_of Closing = 22
number_of Semicolon = 23
number_of Colon = 24
number_of Dot = 25
number_of Name = 26
number_of Other = 27
number_of Component = 28
number_of All = 29
number_of Generic = 30
number_of Comma = 31

role_back : (role : Role) → slice_index_or all_roles (number_of role) Other ≡ role
unfolding all_roles number_of
role_back Library = refl
role_back Use = refl
role_back Context = refl
role_back Entity = refl
role_back Architecture = refl
role_back Configuration = refl
role_back Package = refl
role_back Body = refl
role_back Is = refl
role_back Of = refl
role_back New = refl
role_back Function = refl
role_back Procedure = refl
role_back Generate = refl
role_back End = refl
role_back If = refl
role_back For = refl
role_back Case = refl
role_back Elsif = refl
role_back Else = refl
role_back Inner = refl
role_back Opening = refl
role_back Closing = refl
role_back Semicolon = refl
role_back Colon = refl
role_back Dot = refl
role_back Name = refl
role_back Other = refl
role_back Component = refl
role_back All = refl
role_back Generic = refl
role_back Comma = refl

pub same_role : (a b : Role) → Decided (a ≡ b)
same_role a b =
    ⊎_elim
    (λ (same : number_of a ≡ number_of b). inl (sym (role_back a) ∙ ap (λ (n : ℕ). slice_index_or all_roles n Other) same ∙ role_back b))
    (λ other. inr (λ same. other (ap number_of same)))
    (same_number (number_of a) (number_of b))

-- ## Facts of several parts

pub converted : {A B : Type 0} → (A → B) → (B → A) → Decided A → Decided B
converted to from (inl a) = inl (to a)
converted to from (inr no_a) = inr (λ b. no_a (from b))

pub either : {A B : Type 0} → Decided A → Decided B → Decided (A ⊎ B)
either (inl a) b = inl (inl a)
either (inr no_a) (inl b) = inl (inr b)
either (inr no_a) (inr no_b) = inr (λ any. ⊎_elim no_a no_b any)

pub implied : {A B : Type 0} → Decided A → Decided B → Decided (A → B)
implied a (inl b) = inl (λ _. b)
implied (inl a) (inr no_b) = inr (λ f. no_b (f a))
implied (inr no_a) (inr no_b) = inl (λ a. absurd (no_a a))

-- ## Classes

module _ (roles : List Role) where
  is_role : (at : ℕ) (role : Role) → Decided (role_at roles at ≡ role)
  is_role at role = same_role (role_at roles at) role

  not_after : (role : Role) (at : ℕ) → Decided (IsNotAfter role roles at)
  not_after role zero = inl tt
  not_after role (suc before) = denied (is_role before role)

module _ (roles : List Role) (start : ℕ) where
  is_level : (at : ℕ) → Decided (IsLevel roles start at)
  is_level at = same_number (count_by is_opening (slice_range roles start at)) (count_by is_closing (slice_range roles start at))

  may_open : (at : ℕ) → Decided (MayOpen roles start at)
  may_open at =
      converted (λ (p : IsLevel roles start at × (IsNotAfter End roles at × IsNotAfter Colon roles at)). record { level = p.0; no_end = p.1.0; no_colon = p.1.1 }) (λ (m : MayOpen roles start at). (m.level, (m.no_end, m.no_colon)))
      (both (is_level at) (both (not_after roles End at) (not_after roles Colon at)))

  begins_package : (at : ℕ) → Decided (BeginsPackage roles at)
  begins_package at =
      either (is_role roles (at + 1) Body)
      (converted (λ (p : (role_at roles (at + 1) ≡ Name) × ((role_at roles (at + 2) ≡ Is) × (role_at roles (at + 3) ≢ New))). (p.0, p.1.0, p.1.1)) (λ p. (p.0, (p.1, p.2)))
      (both (is_role roles (at + 1) Name) (both (is_role roles (at + 2) Is) (denied (is_role roles (at + 3) New)))))

  package_opener : (at : ℕ) → Decided (IsPackageOpener roles start at)
  package_opener at =
      converted (λ (p : (role_at roles at ≡ Package) × (MayOpen roles start at × BeginsPackage roles at)). record { word = p.0; may = p.1.0; begins = p.1.1 }) (λ (o : IsPackageOpener roles start at). (o.word, (o.may, o.begins)))
      (both (is_role roles at Package) (both (may_open at) (begins_package at)))

  -- no `is` or `;` at level stands between
  abbrev Between : ℕ → ℕ → Type 0
  Between at is_at = (between : ℕ) → at < between → between < is_at → IsLevel roles start between → (role_at roles between ≢ Is) × (role_at roles between ≢ Semicolon)

  abbrev BodyAt : ℕ → ℕ → Type 0
  BodyAt at is_at = (at < is_at) × ((role_at roles is_at ≡ Is) × (IsLevel roles start is_at × (Between at is_at × (role_at roles (is_at + 1) ≢ New))))

  between : (at is_at : ℕ) → Decided (Between at is_at)
  between at is_at =
      converted
      (λ (each : (n : ℕ) → at + 1 ≤ n → n < is_at → IsLevel roles start n → (role_at roles n ≢ Is) × (role_at roles n ≢ Semicolon)). λ n after before level. each n (omega arith) before level)
      (λ (each : Between at is_at). λ n after before level. each n (omega arith) before level)
      (each_from (λ (n : ℕ). IsLevel roles start n → (role_at roles n ≢ Is) × (role_at roles n ≢ Semicolon)) (λ n. implied (is_level n) (both (denied (is_role roles n Is)) (denied (is_role roles n Semicolon)))) (at + 1) is_at)

  body_at : (at is_at : ℕ) → Decided (BodyAt at is_at)
  body_at at is_at = both (at_most (suc at) is_at) (both (is_role roles is_at Is) (both (is_level is_at) (both (between at is_at) (denied (is_role roles (is_at + 1) New)))))

  has_body : (at : ℕ) → Decided (HasBody roles start at)
  has_body at =
      ⊎_elim
      (λ (found : Largest (BodyAt at) (length roles)). inl (record { is_at = found.is; later = found.holds.0; is_there = found.holds.1.0; is_level = found.holds.1.1.0; first = found.holds.1.1.1.0; no_new = found.holds.1.1.1.1 }))
      (λ none. inr (λ (body : HasBody roles start at).
      let within : body.is_at < length roles = in_file roles body.is_at (λ other. let is : role_at roles body.is_at ≡ Is = body.is_there in cc) in
      none body.is_at (omega arith) (body.later, (body.is_there, (body.is_level, (body.first, body.no_new))))))
      (largest (BodyAt at) (body_at at) (length roles))

  subprogram_opener : (at : ℕ) → Decided (IsSubprogramOpener roles start at)
  subprogram_opener at =
      converted (λ (p : ((role_at roles at ≡ Function) ⊎ (role_at roles at ≡ Procedure)) × (MayOpen roles start at × HasBody roles start at)). record { word = p.0; may = p.1.0; body = p.1.1 }) (λ (o : IsSubprogramOpener roles start at). (o.word, (o.may, o.body)))
      (both (either (is_role roles at Function) (is_role roles at Procedure)) (both (may_open at) (has_body at)))

  pub opens_items : (at : ℕ) → Decided (OpensItems roles start at)
  opens_items at = either (package_opener at) (subprogram_opener at)

pub generate_opener : (roles : List Role) (at : ℕ) → Decided (IsGenerateOpener roles at)
generate_opener roles at =
    converted (λ (p : (role_at roles at ≡ Generate) × (IsNotAfter End roles at × (begins_generate roles at ≡ true))). record { word = p.0; no_end = p.1.0; begins = p.1.1 }) (λ (o : IsGenerateOpener roles at). (o.word, (o.no_end, o.begins)))
    (both (is_role roles at Generate) (both (not_after roles End at) (same_bool (begins_generate roles at) true)))

pub plain_end : (roles : List Role) (at : ℕ) → Decided (IsPlainEnd roles at)
plain_end roles at =
    converted (λ (p : (role_at roles at ≡ End) × (ends_inner (role_at roles (at + 1)) ≡ false)). record { word = p.0; what = p.1 }) (λ (e : IsPlainEnd roles at). (e.word, e.what))
    (both (is_role roles at End) (same_bool (ends_inner (role_at roles (at + 1))) false))

generate_end : (roles : List Role) (at : ℕ) → Decided (IsGenerateEnd roles at)
generate_end roles at =
    converted (λ (p : (role_at roles at ≡ End) × (role_at roles (at + 1) ≡ Generate)). record { word = p.0; what = p.1 }) (λ (e : IsGenerateEnd roles at). (e.word, e.what))
    (both (is_role roles at End) (is_role roles (at + 1) Generate))

pub closes : (roles : List Role) (generate : Bool) (at : ℕ) → Decided (Closes roles generate at)
closes roles true at = generate_end roles at
closes roles false at = plain_end roles at
