-- Tokens that no dot follows: no reference and no use of all names is there, and a walk may pass over them.
use Rattle.std.proofs.Common.{◌≡◌, ℕ, ◌+◌, ◌≤◌, ◌++◌, ◌&&◌, Bool, true, false, not, List, [], map, refl, sym, ◌∙◌, ap, subst, append-nil}
use Rattle.base.specs.declared.design.Role.{Role}
use Rattle.vhdl_spec.specs.References.{is_all_word, is_dot, is_name, is_reference, is_use_of_all, is_used, indices, role_before}
use Rattle.vhdl_spec.specs.Units.{role_at}
use Rattle.vhdl_outline.specs.Dots.{HasPassed}
use Rattle.vhdl_spec.proofs.Walks.{indices_skip}

and_not : (a b c d : Bool) → b ≡ false → (a && b && c && d) ≡ false
and_not true b c d is = ap (λ (x : Bool). x && c && d) is
and_not false b c d is = refl

and_not_inner : (a b c d : Bool) → b ≡ false → ((a && b && c) && d) ≡ false
and_not_inner true b c d is = ap (λ (x : Bool). (x && c) && d) is
and_not_inner false b c d is = refl

-- no reference is where no dot follows
pub no_reference : (roles : List Role) (at : ℕ) → is_dot (role_at roles (at + 1)) ≡ false → is_reference roles at ≡ false
no_reference roles at none = and_not (is_name (role_at roles at)) (is_dot (role_at roles (at + 1))) (is_name (role_at roles (at + 2))) (not (is_dot (role_before roles at))) none

pub no_use : (roles : List Role) (at : ℕ) → is_dot (role_at roles (at + 1)) ≡ false → is_use_of_all roles at ≡ false
no_use roles at none = and_not_inner (is_name (role_at roles at)) (is_dot (role_at roles (at + 1))) (is_all_word (role_at roles (at + 2))) (is_used roles at) none

pub skip_references : {X : Type 0} (f : ℕ → X) (roles named : List Role) (start at end next : ℕ) → roles ≡ named → start ≤ at → HasPassed roles at end next → map f (indices (is_reference named) start next) ≡ map f (indices (is_reference named) start at)
skip_references f roles named start at end next is ordered passed =
    ap (map f) (indices_skip (is_reference named) start at next ordered passed.reaches (λ k reach below. no_reference named k (subst (λ (rs : List Role). is_dot (role_at rs (k + 1)) ≡ false) is (passed.none k reach below))))

pub skip_uses : (roles : List Role) (start at end next : ℕ) → start ≤ at → HasPassed roles at end next → indices (is_use_of_all roles) start next ≡ indices (is_use_of_all roles) start at
skip_uses roles start at end next ordered passed =
    indices_skip (is_use_of_all roles) start at next ordered passed.reaches (λ k reach below. no_use roles k (passed.none k reach below))

pub none_so_far : {X : Type 0} (items found : List X) → found ≡ [] → items ≡ items ++ found
none_so_far {X} items found none = sym (append-nil items) ∙ ap (λ (xs : List X). items ++ xs) (sym none)
