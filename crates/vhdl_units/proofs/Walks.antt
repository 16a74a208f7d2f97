-- Small walks over roles.
use Rattle.std.proofs.Common.{◌≡◌, ◌≢◌, ℕ, ◌+◌, ◌*◌, ◌<◌, Bool, true, false, not, IsTrue, ◌↔◌, List, length, Option, Some, None, refl, sym, ◌∙◌, ap, subst, ⊎_elim, arith}
use Rattle.std.proofs.str.Laws.{order}
use Rattle.base.specs.declared.design.Role.{Role}
use Rattle.base.specs.declared.design.Role.TheVariants.{Is, Dot, New, Name}
use Rattle.base.specs.declared.design.UnitKind.{UnitKind}
use Rattle.base.specs.declared.design.Beginning.TheVariants as begins
use Rattle.vhdl_spec.specs.Units.{role_at, IsOwner, HasBody, IsFirstSemicolon, IsEndPart, beginning_at, Begins, BeginsAs, Element, item, plain, owned, IsElement}
use Rattle.vhdl_spec.proofs.Files.{in_file}
use Rattle.vhdl_spec.proofs.Grammar.{one_close, one_owner}
use Rattle.vhdl_units.specs.Parts.{IsNextDelimiter, IsUnitClose, IsSemicolonFrom, IsEndFrom}

-- the names of an owner and the dots between them, as far as the walk has come
pub record OwnerSoFar (roles : List Role) (start before at : ℕ) : Type 0 where
  pub offset : at ≡ start + 2 * before
  pub names : (n : ℕ) → n < before → role_at roles (start + 2 * n) ≡ Name
  pub dots : (n : ℕ) → n < before → role_at roles (start + 2 * n + 1) ≡ Dot

-- the body's `is` is the next delimiter
pub body_at_delimiter : (roles : List Role) (start at delimiter : ℕ) → IsNextDelimiter roles start (at + 1) delimiter → (body : HasBody roles start at) → body.is_at ≡ delimiter
body_at_delimiter roles start at delimiter next body =
    ⊎_elim
    (λ earlier. let none = next.none body.is_at (omega (arith, body.later)) earlier body.is_level in absurd (none.0 body.is_there))
    (λ h. ⊎_elim
    (λ later.
    let is_in : body.is_at < length roles = in_file roles body.is_at (λ other. let is : role_at roles body.is_at ≡ Is = body.is_there in cc) in
    let there = next.there (omega arith) in
    let first = body.first delimiter (omega (arith, next.after)) later there.0 in
    absurd (⊎_elim first.0 first.1 there.1))
    (λ same. omega arith)
    (order delimiter body.is_at))
    (order body.is_at delimiter)

-- where the next delimiter is an `is`, whether there is a body hangs on what comes after it
pub body_here : (roles : List Role) (start at delimiter : ℕ) → IsNextDelimiter roles start (at + 1) delimiter → role_at roles delimiter ≡ Is → role_at roles (delimiter + 1) ≢ New → HasBody roles start at
body_here roles start at delimiter next is no_new =
    let is_in : delimiter < length roles = in_file roles delimiter (λ other. cc) in
    record { is_at = delimiter; later = omega (arith, next.after); is_there = is; is_level = (next.there is_in).0; first = λ between after before level. next.none between (omega arith) before level; no_new = no_new }

pub body_without_new : (roles : List Role) (start at delimiter : ℕ) → IsNextDelimiter roles start (at + 1) delimiter → HasBody roles start at → role_at roles (delimiter + 1) ≢ New
body_without_new roles start at delimiter next body is = body.no_new (ap (λ (n : ℕ). role_at roles (n + 1)) (body_at_delimiter roles start at delimiter next body) ∙ is)

pub no_test : (test : Bool) (P : Type 0) → (IsTrue test ↔ P) → IsTrue (not test) → P → ⊥
no_test true P means fails p = cc
no_test false P means fails p = let passes : false ≡ true = means.1 p in cc

pub test_fails : (test : Bool) (P : Type 0) → (IsTrue test ↔ P) → (P → ⊥) → IsTrue (not test)
test_fails true P means none = absurd (none (means.0 refl))
test_fails false P means none = refl

-- the end of a unit, by its close and the semicolon after it
pub end_from : (roles : List Role) (start close : ℕ) (last : Option ℕ) → IsUnitClose roles start close → IsSemicolonFrom roles (close + 1) last → IsEndFrom roles start last
end_from roles start close None is none = λ last part.
    let same : part.close ≡ close = one_close part.inside part.ends is.inside is.ends in
    none last (subst (λ (n : ℕ). IsFirstSemicolon roles (n + 1) last) same part.semicolon)
end_from roles start close (Some last) is semicolon = record { close = close; inside = is.inside; ends = is.ends; semicolon = semicolon }

no_owned_element : (roles : List Role) (at : ℕ) (kind : UnitKind) (before : ℕ) → beginning_at roles at ≡ begins.Owned kind → IsOwner roles (at + 3) before → IsEndFrom roles (at + 5 + 2 * before) None → (element : Element) → IsElement roles at element → ⊥
no_owned_element roles at kind before is owner none (item last) stands = let other = sym is ∙ stands.0 in cc
no_owned_element roles at kind before is owner none (plain kind' last) stands = let other = sym is ∙ stands.0 in cc
no_owned_element roles at kind before is owner none (owned kind' before' last) stands =
    let same : before' ≡ before = one_owner roles (at + 3) before' before stands.1 owner in
    none last (subst (λ (n : ℕ). IsEndPart roles (at + 5 + 2 * n) last) same stands.2)

-- a unit with an owner and no end
pub owned_unended : (roles : List Role) (at : ℕ) (kind : UnitKind) (before : ℕ) → beginning_at roles at ≡ begins.Owned kind → IsOwner roles (at + 3) before → IsEndFrom roles (at + 5 + 2 * before) None → Begins roles at × ((element : Element) → IsElement roles at element → ⊥)
owned_unended roles at kind before is owner none = (subst (BeginsAs roles at) (sym is) (before, owner), no_owned_element roles at kind before is owner none)
