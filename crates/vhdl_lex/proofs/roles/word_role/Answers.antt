-- The role of a word is that of its number among the reserved words.
use Rattle.std.proofs.Common.{◌≡◌, ◌≢◌, ◌-◌, ℕ, List, zero, suc, slice_index_or, refl, sym, ◌∙◌, ap, subst, arith}
use Rattle.vhdl_spec.specs.Words.{lower_case}
use Rattle.vhdl_spec.specs.Units.{word_role}
use Rattle.base.specs.declared.design.Role.TheVariants.{Library}
use Rattle.vhdl_lex.specs.Buckets.{IsNumberOf}
use Rattle.vhdl_lex.specs.declared.roles.TheConstants.{ROLES}
use Rattle.vhdl_lex.proofs.WordRoles.{role_of_number, role_of_other}
use Rattle.vhdl_lex.proofs.roles.word_role.Goals as goal

by_number : (word : List ℕ) (number : ℕ) → IsNumberOf word number → number ≢ 0 → slice_index_or ROLES (number - 1) Library ≡ word_role (lower_case word)
by_number word zero is some = absurd (some refl)
by_number word (suc number) is some =
    let before : suc number - 1 ≡ number = omega arith in
    ap (λ (n : ℕ). slice_index_or ROLES n Library) before ∙ role_of_number word number is.0 is.1

pub returns-in-0 : goal.returns-in-0
returns-in-0 c = sym (role_of_other c.args.word.now (subst (IsNumberOf c.args.word.now) c.in-0.is c.reserved_number.ensures))

pub returns-in_default : goal.returns-in_default
returns-in_default c = by_number c.args.word.now c.reserved_number.result c.reserved_number.ensures (λ is. omega arith)
