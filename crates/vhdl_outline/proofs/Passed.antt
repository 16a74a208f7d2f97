-- Tokens at which no case is called may be passed over.
use Rattle.std.proofs.Common.{◌≡◌, ℕ, ◌+◌, ◌≤◌, ◌&&◌, Bool, true, false, codes, List, map, refl, ◌∙◌, ap, subst}
use Rattle.std.proofs.Math.ListN.{get_or-map}
use Rattle.base.specs.declared.design.Role.{Role}
use Rattle.base.specs.declared.lexical.Token.{Token}
use Rattle.base.specs.declared.lexical.TokenKind.{TokenKind}
use Rattle.base.specs.declared.lexical.TokenKind.TheVariants.{Word, Extended, Number, Str, Char, Tick, Symbol, High}
use Rattle.vhdl_spec.specs.References.{indices}
use Rattle.vhdl_spec.proofs.Walks.{indices_skip}
use Rattle.vhdl_spec.specs.Units.{is_closing, is_opening, kind_role, role_at, role_of, roles_of, token_at}
use Rattle.vhdl_outline.specs.Calls.{is_run_call, is_string, is_word_at}
use Rattle.vhdl_outline.specs.Passing.{HasPassed, is_other, may_call}

-- a string is a token that no rule names
kind_other : (text : List ℕ) (token : Token) (kind : TokenKind) → is_string kind ≡ true → is_other (kind_role text token kind) ≡ true
kind_other text token Word is = let never : ⊥ = cc in absurd never
kind_other text token Extended is = let never : ⊥ = cc in absurd never
kind_other text token Number is = refl
kind_other text token Str is = refl
kind_other text token Char is = refl
kind_other text token Tick is = refl
kind_other text token Symbol is = let never : ⊥ = cc in absurd never
kind_other text token High is = refl

abbrev past : Token
past = record { kind = High; start = 0; end = 0 }

string_other : (text : List ℕ) (tokens : List Token) (at : ℕ) → is_string (token_at tokens at).kind ≡ true → is_other (role_at (roles_of text tokens) at) ≡ true
string_other text tokens at is = ap is_other (get_or-map (role_of text) tokens at past) ∙ kind_other text (token_at tokens at) (token_at tokens at).kind is

by_roles : (named opens is_text closes other : Bool) → (is_text ≡ true → other ≡ true) → (opens && other && closes) ≡ false → (named && opens && is_text && closes) ≡ false
by_roles false opens is_text closes other tells none = refl
by_roles true false is_text closes other tells none = refl
by_roles true true false closes other tells none = refl
by_roles true true true closes true tells none = none
by_roles true true true closes false tells none = let never : ⊥ = let told = tells refl in cc in absurd never

no_call : (text : List ℕ) (tokens : List Token) (at : ℕ) → may_call (roles_of text tokens) at ≡ false → is_run_call text tokens at ≡ false
no_call text tokens at none = by_roles (is_word_at (codes "run") text tokens at) (is_opening (role_at (roles_of text tokens) (at + 1))) (is_string (token_at tokens (at + 2)).kind) (is_closing (role_at (roles_of text tokens) (at + 3))) (is_other (role_at (roles_of text tokens) (at + 2))) (string_other text tokens (at + 2)) none

pub skip_calls : {X : Type 0} (f : ℕ → X) (text : List ℕ) (tokens : List Token) (roles : List Role) (start at end next : ℕ) → roles ≡ roles_of text tokens → start ≤ at → HasPassed roles at end next → map f (indices (is_run_call text tokens) start next) ≡ map f (indices (is_run_call text tokens) start at)
skip_calls f text tokens roles start at end next are ordered passed =
    ap (map f) (indices_skip (is_run_call text tokens) start at next ordered passed.reaches (λ k reach below. no_call text tokens k (subst (λ (rs : List Role). may_call rs k ≡ false) are (passed.none k reach below))))
