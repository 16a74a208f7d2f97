-- Tests of single tokens, and the value of a string.
use Rattle.std.proofs.Common.{◌≡◌, ◌↔◌, ℕ, ◌+◌, Bool, true, false, List, refl}
use Rattle.std.specs.Prelude.{IsTrue}
use Rattle.std.specs.Str.{bytes_eq}
use Rattle.std.proofs.lemmas.Bool.Decides.{same_from_decides}
use Rattle.std.proofs.lemmas.Slice.Eq.{bytes_eq-Decides}
use Rattle.base.specs.declared.design.UnitKind.{UnitKind}
use Rattle.base.specs.declared.design.UnitKind.TheVariants as kinds
use Rattle.std.proofs.Common.{codes, ◌&&◌}
use Rattle.base.specs.declared.lexical.Token.{Token}
use Rattle.vhdl_spec.specs.Units.{is_closing, is_opening, name_token, role_at, roles_of, token_at}
use Rattle.vhdl_outline.specs.Runs.{is_entity_kind}
use Rattle.vhdl_outline.specs.Calls.{is_run_call, is_string, is_word_at}

pub same_test : (answer : Bool) (a b : List ℕ) → IsTrue answer ↔ (a ≡ b) → answer ≡ bytes_eq a b
same_test answer a b told = same_from_decides answer (bytes_eq a b) told (bytes_eq-Decides a b)

pub entity_name : (kind : UnitKind) (at : ℕ) → is_entity_kind kind ≡ true → name_token kind at ≡ at + 1
entity_name kinds.Entity at is = refl
entity_name kinds.Architecture at is = let no : ⊥ = cc in absurd no
entity_name kinds.Configuration at is = let no : ⊥ = cc in absurd no
entity_name kinds.Package at is = let no : ⊥ = cc in absurd no
entity_name kinds.PackageBody at is = let no : ⊥ = cc in absurd no
entity_name kinds.PackageInstance at is = let no : ⊥ = cc in absurd no
entity_name kinds.Context at is = let no : ⊥ = cc in absurd no

third_of : (a b c d : Bool) → (a && b && c && d) ≡ true → c ≡ true
third_of true true true d is = refl
third_of true true false d is = is
third_of true false c d is = let no : ⊥ = cc in absurd no
third_of false b c d is = let no : ⊥ = cc in absurd no

-- what a call names is a string
pub call_string : (text : List ℕ) (tokens : List Token) (at : ℕ) → is_run_call text tokens at ≡ true → is_string (token_at tokens (at + 2)).kind ≡ true
call_string text tokens at is = third_of (is_word_at (codes "run") text tokens at) (is_opening (role_at (roles_of text tokens) (at + 1))) (is_string (token_at tokens (at + 2)).kind) (is_closing (role_at (roles_of text tokens) (at + 3))) is
