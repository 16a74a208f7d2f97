-- Items are read in one way, and what ends them is at one place.
use Rattle.std.proofs.Common.{◌≡◌, ℕ, ◌+◌, ◌*◌, ◌≤◌, Bool, true, false, List, sym, ◌∙◌, subst, inl, inr, ⊎_elim, arith}
use Rattle.std.proofs.str.Laws.{order}
use Rattle.base.specs.declared.design.Role.{Role}
use Rattle.base.specs.declared.design.Role.TheVariants.{Package, Generate, End, Is, Dot}
use Rattle.vhdl_spec.specs.Units.{role_at, OpensItems, IsGenerateOpener, Closes, IsSingle, Items, nothing, single, items, region, IsFirstSemicolon, IsEndPart, IsOwner}

pub close_word : (roles : List Role) (generate : Bool) (at : ℕ) → Closes roles generate at → role_at roles at ≡ End
close_word roles true at closes = closes.word
close_word roles false at closes = closes.word

module _ (roles : List Role) (start at : ℕ) where
  pub opener_is_no_close : (generate : Bool) → OpensItems roles start at → Closes roles generate at → ⊥
  opener_is_no_close generate (inl opener) closes = let word : role_at roles at ≡ Package = opener.word in let end = close_word roles generate at closes in cc
  opener_is_no_close generate (inr opener) closes = let end = close_word roles generate at closes in ⊎_elim (λ word. cc) (λ word. cc) opener.word

  pub opener_is_no_generate : OpensItems roles start at → IsGenerateOpener roles at → ⊥
  opener_is_no_generate (inl opener) generate = let word : role_at roles at ≡ Package = opener.word in let other : role_at roles at ≡ Generate = generate.word in cc
  opener_is_no_generate (inr opener) generate = let other : role_at roles at ≡ Generate = generate.word in ⊎_elim (λ word. cc) (λ word. cc) opener.word

pub generate_is_no_close : (roles : List Role) (at : ℕ) (generate : Bool) → IsGenerateOpener roles at → Closes roles generate at → ⊥
generate_is_no_close roles at generate opener closes = let word : role_at roles at ≡ Generate = opener.word in let end = close_word roles generate at closes in cc

pub items_ordered : {roles : List Role} {start : ℕ} {generate : Bool} {at end : ℕ} → Items roles start generate at end → at ≤ end
items_ordered (nothing is) = omega arith
items_ordered (single one rest) = let later = items_ordered rest in omega arith
items_ordered (items opens inner ends rest) = let first = items_ordered inner in let later = items_ordered rest in omega arith
items_ordered (region opens inner ends rest) = let first = items_ordered inner in let later = items_ordered rest in omega arith

-- items after an opener: those within its region, and those after its end
pub record Nested (roles : List Role) (start : ℕ) (inner generate : Bool) (at end : ℕ) : Type 0 where
  pub close : ℕ
  pub inside : Items roles start inner (at + 1) close
  pub closes : Closes roles inner close
  pub rest : Items roles start generate (close + 1) end

pub items_of_single : {roles : List Role} {start : ℕ} {generate : Bool} {at end : ℕ} → IsSingle roles start generate at → Closes roles generate end → Items roles start generate at end → Items roles start generate (at + 1) end
items_of_single {roles} {start} {generate} {at} one closes (nothing is) = absurd (one.no_close (subst (Closes roles generate) is closes))
items_of_single one closes (single other rest) = rest
items_of_single one closes (items opens inner ends rest) = absurd (one.no_items opens)
items_of_single one closes (region opens inner ends rest) = absurd (one.no_generate opens)

pub items_of_opener : {roles : List Role} {start : ℕ} {generate : Bool} {at end : ℕ} → OpensItems roles start at → Closes roles generate end → Items roles start generate at end → Nested roles start false generate at end
items_of_opener {roles} {start} {generate} {at} opener closes (nothing is) = absurd (opener_is_no_close roles start at generate opener (subst (Closes roles generate) is closes))
items_of_opener opener closes (single one rest) = absurd (one.no_items opener)
items_of_opener opener closes (items {close = close} opens inner ends rest) = record { close = close; inside = inner; closes = ends; rest = rest }
items_of_opener {roles} {start} {generate} {at} opener closes (region opens inner ends rest) = absurd (opener_is_no_generate roles start at opener opens)

pub items_of_generate : {roles : List Role} {start : ℕ} {generate : Bool} {at end : ℕ} → IsGenerateOpener roles at → Closes roles generate end → Items roles start generate at end → Nested roles start true generate at end
items_of_generate {roles} {start} {generate} {at} opener closes (nothing is) = absurd (generate_is_no_close roles at generate opener (subst (Closes roles generate) is closes))
items_of_generate opener closes (single one rest) = absurd (one.no_generate opener)
items_of_generate {roles} {start} {generate} {at} opener closes (items opens inner ends rest) = absurd (opener_is_no_generate roles start at opens opener)
items_of_generate opener closes (region {close = close} opens inner ends rest) = record { close = close; inside = inner; closes = ends; rest = rest }

pub items_of_close : {roles : List Role} {start : ℕ} {generate : Bool} {at end : ℕ} → Closes roles generate at → Items roles start generate at end → end ≡ at
items_of_close closes (nothing is) = is
items_of_close closes (single one rest) = absurd (one.no_close closes)
items_of_close {roles} {start} {generate} {at} closes (items opens inner ends rest) = absurd (opener_is_no_close roles start at generate opens closes)
items_of_close {roles} {start} {generate} {at} closes (region opens inner ends rest) = absurd (generate_is_no_close roles at generate opens closes)

-- a region is closed at one place
pub one_close : {roles : List Role} {start : ℕ} {generate : Bool} {at a b : ℕ} → Items roles start generate at a → Closes roles generate a → Items roles start generate at b → Closes roles generate b → a ≡ b
one_close {roles} {start} {generate} {at} {a} {b} (nothing is) a_closes right b_closes =
    let here : Closes roles generate at = subst (Closes roles generate) is a_closes in
    is ∙ sym (items_of_close here right)
one_close (single one rest) a_closes right b_closes = one_close rest a_closes (items_of_single one b_closes right) b_closes
one_close {roles} {start} {generate} {at} {a} {b} (items {close = close} opens inner ends rest) a_closes right b_closes =
    let nested = items_of_opener opens b_closes right in
    let same : close ≡ nested.close = one_close inner ends nested.inside nested.closes in
    one_close rest a_closes (subst (λ (n : ℕ). Items roles start generate (n + 1) b) (sym same) nested.rest) b_closes
one_close {roles} {start} {generate} {at} {a} {b} (region {close = close} opens inner ends rest) a_closes right b_closes =
    let nested = items_of_generate opens b_closes right in
    let same : close ≡ nested.close = one_close inner ends nested.inside nested.closes in
    one_close rest a_closes (subst (λ (n : ℕ). Items roles start generate (n + 1) b) (sym same) nested.rest) b_closes

pub one_semicolon : (roles : List Role) (start a b : ℕ) → IsFirstSemicolon roles start a → IsFirstSemicolon roles start b → a ≡ b
one_semicolon roles start a b left right =
    ⊎_elim (λ h. absurd (right.first a left.after h left.there)) (λ h. ⊎_elim (λ k. absurd (left.first b right.after k right.there)) (λ k. omega arith) (order b a)) (order a b)

pub one_end_part : (roles : List Role) (start a b : ℕ) → IsEndPart roles start a → IsEndPart roles start b → a ≡ b
one_end_part roles start a b left right =
    let same : left.close ≡ right.close = one_close left.inside left.ends right.inside right.ends in
    one_semicolon roles (right.close + 1) a b (subst (λ (n : ℕ). IsFirstSemicolon roles (n + 1) a) same left.semicolon) right.semicolon

pub one_owner : (roles : List Role) (start a b : ℕ) → IsOwner roles start a → IsOwner roles start b → a ≡ b
one_owner roles start a b left right =
    ⊎_elim
    (λ h. let is : role_at roles (start + 2 * a + 1) ≡ Is = left.is_after in let dot : role_at roles (start + 2 * a + 1) ≡ Dot = right.dots a h in absurd cc)
    (λ h. ⊎_elim (λ k. let is : role_at roles (start + 2 * b + 1) ≡ Is = right.is_after in let dot : role_at roles (start + 2 * b + 1) ≡ Dot = left.dots b k in absurd cc) (λ k. omega arith) (order b a))
    (order a b)
