-- A file is read in one way.
use Rattle.std.proofs.Common.{◌≡◌, ◌≢◌, ℕ, ◌+◌, ◌*◌, ◌<◌, ◌≤◌, List, [], ◌∷◌, length, refl, sym, ◌∙◌, ap, subst, ⊎_elim, arith}
use Rattle.std.proofs.str.Laws.{order}
use Rattle.std.proofs.lemmas.List.{get_or_past}
use Rattle.base.specs.declared.lexical.Token.{Token}
use Rattle.base.specs.declared.design.UnitKind.{UnitKind}
use Rattle.base.specs.declared.design.UnitKind.TheVariants as kinds
use Rattle.base.specs.declared.design.Role.{Role}
use Rattle.base.specs.declared.design.Role.TheVariants.{Semicolon, Other}
use Rattle.base.specs.declared.design.Beginning.TheVariants as begins
use Rattle.base.specs.declared.design.UnitFault.{UnitFault}
use Rattle.base.specs.declared.design.UnitFault.TheVariants.{NotUnit, NotEnded}
use Rattle.vhdl_spec.specs.Units.{role_at, roles_of, token_at, IsFirstSemicolon, IsEndPart, EndsPlain, Element, item, plain, owned, last_of, IsElement, Begins, BeginsAs, Follow, IsOutline, IsNoUnit, IsUnended, HasUnitFault}
use Rattle.vhdl_spec.proofs.Grammar.{items_ordered, one_semicolon, one_end_part, one_owner}

-- a role that the grammar names is that of a token
pub in_file : (roles : List Role) (at : ℕ) → role_at roles at ≢ Other → at < length roles
in_file roles at named = ⊎_elim (λ h. h) (λ h. absurd (named (get_or_past roles at Other h))) (order at (length roles))

-- ## Where elements end

-- the end lies after a token, within the file
pub record EndsAfter (roles : List Role) (lex_state last : ℕ) : Type 0 where
  pub after : lex_state < last
  pub within : last < length roles

semicolon_after : (roles : List Role) (start last : ℕ) → IsFirstSemicolon roles (start + 1) last → EndsAfter roles start last
semicolon_after roles start last is = record { after = omega (arith, is.after); within = in_file roles last (λ other. let there : role_at roles last ≡ Semicolon = is.there in cc) }

pub end_part_after : (roles : List Role) (start last : ℕ) → IsEndPart roles start last → EndsAfter roles start last
end_part_after roles start last part =
    let ordered = items_ordered part.inside in
    let rest = semicolon_after roles part.close last part.semicolon in
    record { after = omega (arith, rest.after); within = rest.within }

closer : (roles : List Role) (a b last : ℕ) → a ≤ b → EndsAfter roles b last → EndsAfter roles a last
closer roles a b last ordered ends = record { after = omega (arith, ends.after); within = ends.within }

pub plain_after : (kind : UnitKind) (roles : List Role) (at last : ℕ) → EndsPlain kind roles at last → EndsAfter roles (at + 2) last
plain_after kinds.PackageInstance roles at last ends =
    let three : at + 3 ≡ at + 2 + 1 = omega arith in
    semicolon_after roles (at + 2) last (subst (λ (n : ℕ). IsFirstSemicolon roles n last) three ends)
plain_after kinds.PackageBody roles at last ends = closer roles (at + 2) (at + 4) last (omega arith) (end_part_after roles (at + 4) last ends)
plain_after kinds.Entity roles at last ends = closer roles (at + 2) (at + 3) last (omega arith) (end_part_after roles (at + 3) last ends)
plain_after kinds.Architecture roles at last ends = closer roles (at + 2) (at + 3) last (omega arith) (end_part_after roles (at + 3) last ends)
plain_after kinds.Configuration roles at last ends = closer roles (at + 2) (at + 3) last (omega arith) (end_part_after roles (at + 3) last ends)
plain_after kinds.Package roles at last ends = closer roles (at + 2) (at + 3) last (omega arith) (end_part_after roles (at + 3) last ends)
plain_after kinds.Context roles at last ends = closer roles (at + 2) (at + 3) last (omega arith) (end_part_after roles (at + 3) last ends)

pub element_after : (roles : List Role) (at : ℕ) (element : Element) → IsElement roles at element → EndsAfter roles at (last_of element)
element_after roles at (item last) is = semicolon_after roles at last is.1
element_after roles at (plain kind last) is = closer roles at (at + 2) last (omega arith) (plain_after kind roles at last is.1)
element_after roles at (owned kind before last) is = closer roles at (at + 5 + 2 * before) last (omega arith) (end_part_after roles (at + 5 + 2 * before) last is.2)

-- ## One element at a token

one_plain_end : (kind : UnitKind) (roles : List Role) (at a b : ℕ) → EndsPlain kind roles at a → EndsPlain kind roles at b → a ≡ b
one_plain_end kinds.PackageInstance roles at a b left right = one_semicolon roles (at + 3) a b left right
one_plain_end kinds.PackageBody roles at a b left right = one_end_part roles (at + 4) a b left right
one_plain_end kinds.Entity roles at a b left right = one_end_part roles (at + 3) a b left right
one_plain_end kinds.Architecture roles at a b left right = one_end_part roles (at + 3) a b left right
one_plain_end kinds.Configuration roles at a b left right = one_end_part roles (at + 3) a b left right
one_plain_end kinds.Package roles at a b left right = one_end_part roles (at + 3) a b left right
one_plain_end kinds.Context roles at a b left right = one_end_part roles (at + 3) a b left right

same_plain : (a b : UnitKind) → begins.Plain a ≡ begins.Plain b → a ≡ b
same_plain a b is = cc

same_owned : (a b : UnitKind) → begins.Owned a ≡ begins.Owned b → a ≡ b
same_owned a b is = cc

one_element : (roles : List Role) (at : ℕ) (a b : Element) → IsElement roles at a → IsElement roles at b → a ≡ b
one_element roles at (item a) (item b) left right = ap item (one_semicolon roles (at + 1) a b left.1 right.1)
one_element roles at (item a) (plain kind b) left right = let other = sym left.0 ∙ right.0 in cc
one_element roles at (item a) (owned kind before b) left right = let other = sym left.0 ∙ right.0 in cc
one_element roles at (plain kind a) (item b) left right = let other = sym left.0 ∙ right.0 in cc
one_element roles at (plain kind a) (plain kind' b) left right =
    let same : kind ≡ kind' = same_plain kind kind' (sym left.0 ∙ right.0) in
    let ends : a ≡ b = one_plain_end kind' roles at a b (subst (λ (k : UnitKind). EndsPlain k roles at a) same left.1) right.1 in
    λ i. plain (same i) (ends i)
one_element roles at (plain kind a) (owned kind' before b) left right = let other = sym left.0 ∙ right.0 in cc
one_element roles at (owned kind before a) (item b) left right = let other = sym left.0 ∙ right.0 in cc
one_element roles at (owned kind before a) (plain kind' b) left right = let other = sym left.0 ∙ right.0 in cc
one_element roles at (owned kind before a) (owned kind' before' b) left right =
    let same : kind ≡ kind' = same_owned kind kind' (sym left.0 ∙ right.0) in
    let befores : before ≡ before' = one_owner roles (at + 3) before before' left.1 right.1 in
    let ends : a ≡ b = one_end_part roles (at + 5 + 2 * before') a b (subst (λ (n : ℕ). IsEndPart roles (at + 5 + 2 * n) a) befores left.2) right.2 in
    λ i. owned (same i) (befores i) (ends i)

-- ## One way through a file

abbrev pub NoElement : List Role → ℕ → Type 0
NoElement roles at = (element : Element) → IsElement roles at element → ⊥

pub end_has_no_element : (roles : List Role) (at : ℕ) → at ≡ length roles → NoElement roles at
end_has_no_element roles at whole element is = let ends = element_after roles at element is in omega (arith, ends.after, ends.within)

element_begins : (roles : List Role) (at : ℕ) (element : Element) → IsElement roles at element → Begins roles at
element_begins roles at (item last) is = subst (BeginsAs roles at) (sym is.0) tt
element_begins roles at (plain kind last) is = subst (BeginsAs roles at) (sym is.0) tt
element_begins roles at (owned kind before last) is = subst (BeginsAs roles at) (sym is.0) (before, is.1)

no_unit_has_no_element : (roles : List Role) (at : ℕ) → IsNoUnit roles at → NoElement roles at
no_unit_has_no_element roles at no_unit element is = no_unit.no_start (element_begins roles at element is)

one_way : (roles : List Role) (at : ℕ) (xs ys : List Element) (a b : ℕ) → Follow roles at xs a → NoElement roles a → Follow roles at ys b → NoElement roles b → (xs ≡ ys) × (a ≡ b)
one_way roles at [] [] a b left a_ends right b_ends = (refl, sym left ∙ right)
one_way roles at [] (y ∷ ys) a b left a_ends right b_ends = absurd (subst (NoElement roles) (sym left) a_ends y right.0)
one_way roles at (x ∷ xs) [] a b left a_ends right b_ends = absurd (subst (NoElement roles) (sym right) b_ends x left.0)
one_way roles at (x ∷ xs) (y ∷ ys) a b left a_ends right b_ends =
    let same : x ≡ y = one_element roles at x y left.0 right.0 in
    let moved : Follow roles (last_of y + 1) xs a = subst (λ (e : Element). Follow roles (last_of e + 1) xs a) same left.1 in
    let rest = one_way roles (last_of y + 1) xs ys a b moved a_ends right.1 b_ends in
    ((λ i. same i ∷ rest.0 i), rest.1)

pub one_outline : (roles : List Role) (xs ys : List Element) → IsOutline roles xs → IsOutline roles ys → xs ≡ ys
one_outline roles xs ys left right = (one_way roles 0 xs ys (length roles) (length roles) left (end_has_no_element roles (length roles) refl) right (end_has_no_element roles (length roles) refl)).0

-- a token where elements stop
record Stops (roles : List Role) (at : ℕ) : Type 0 where
  elements : List Element
  follow : Follow roles 0 elements at
  within : at < length roles
  none : NoElement roles at

no_unit_stops : (roles : List Role) (at : ℕ) → IsNoUnit roles at → Stops roles at
no_unit_stops roles at is = record { elements = is.elements; follow = is.follow; within = is.within; none = no_unit_has_no_element roles at is }

unended_stops : (roles : List Role) (at : ℕ) → IsUnended roles at → Stops roles at
unended_stops roles at is = record { elements = is.elements; follow = is.follow; within = is.within; none = is.no_end }

one_stop : (roles : List Role) (a b : ℕ) → Stops roles a → Stops roles b → a ≡ b
one_stop roles a b left right = (one_way roles 0 left.elements right.elements a b left.follow left.none right.follow right.none).1

no_outline_and_stop : (roles : List Role) (elements : List Element) (at : ℕ) → IsOutline roles elements → Stops roles at → ⊥
no_outline_and_stop roles elements at outline stops =
    let same : length roles ≡ at = (one_way roles 0 elements stops.elements (length roles) at outline (end_has_no_element roles (length roles) refl) stops.follow stops.none).1 in
    omega (arith, stops.within)

pub no_outline_and_fault : (text : List ℕ) (tokens : List Token) (elements : List Element) (fault : UnitFault) → IsOutline (roles_of text tokens) elements → HasUnitFault text tokens fault → ⊥
no_outline_and_fault text tokens elements (NotUnit lex_state) outline has = no_outline_and_stop (roles_of text tokens) elements has.0 outline (no_unit_stops (roles_of text tokens) has.0 has.1)
no_outline_and_fault text tokens elements (NotEnded lex_state) outline has = no_outline_and_stop (roles_of text tokens) elements has.0 outline (unended_stops (roles_of text tokens) has.0 has.1)

pub one_unit_fault : (text : List ℕ) (tokens : List Token) (a b : UnitFault) → HasUnitFault text tokens a → HasUnitFault text tokens b → a ≡ b
one_unit_fault text tokens (NotUnit p) (NotUnit q) left right =
    let roles = roles_of text tokens in
    let same : left.0 ≡ right.0 = one_stop roles left.0 right.0 (no_unit_stops roles left.0 left.1) (no_unit_stops roles right.0 right.1) in
    ap NotUnit (left.2 ∙ ap (λ (n : ℕ). (token_at tokens n).start) same ∙ sym right.2)
one_unit_fault text tokens (NotEnded p) (NotEnded q) left right =
    let roles = roles_of text tokens in
    let same : left.0 ≡ right.0 = one_stop roles left.0 right.0 (unended_stops roles left.0 left.1) (unended_stops roles right.0 right.1) in
    ap NotEnded (left.2 ∙ ap (λ (n : ℕ). (token_at tokens n).start) same ∙ sym right.2)
one_unit_fault text tokens (NotUnit p) (NotEnded q) left right =
    let roles = roles_of text tokens in
    let same : left.0 ≡ right.0 = one_stop roles left.0 right.0 (no_unit_stops roles left.0 left.1) (unended_stops roles right.0 right.1) in
    absurd (left.1.no_start (subst (Begins roles) (sym same) right.1.start))
one_unit_fault text tokens (NotEnded p) (NotUnit q) left right =
    let roles = roles_of text tokens in
    let same : left.0 ≡ right.0 = one_stop roles left.0 right.0 (unended_stops roles left.0 left.1) (no_unit_stops roles right.0 right.1) in
    absurd (right.1.no_start (subst (Begins roles) same left.1.start))
