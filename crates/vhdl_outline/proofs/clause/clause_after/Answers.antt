-- What each token does to the clause.
use Rattle.std.proofs.Common.{◌+◌, Bool, not, ◌&&◌, ◌||◌, false, true, refl, sym, ◌∙◌, ap, subst}
use Rattle.base.specs.declared.design.Role.TheVariants.{Library, Use, Context, Is, Semicolon}
use Rattle.vhdl_spec.specs.References.{is_context_word}
use Rattle.vhdl_outline.specs.Clauses.{IsClauseAt}
use Rattle.vhdl_outline.specs.declared.clause.Clause.{Clause}
use Rattle.vhdl_outline.proofs.ClauseSteps.{clause_goes_on, clause_ends, not_semicolon, not_end, not_listing, not_use, not_context, not_library}
use Rattle.vhdl_outline.proofs.clause.clause_after.Goals as goal

pub returns-in-Semicolon : goal.returns-in-Semicolon
returns-in-Semicolon c = subst (λ (k : Clause). IsClauseAt c.args.roles.now (c.args.at + 1) k) (sym c.clause_from-next.ensures) (clause_ends c.args.roles.now c.args.at Semicolon c.requires.within (sym c.in-Semicolon.ensures) refl)

pub returns-in-Is : goal.returns-in-Is
returns-in-Is c = clause_goes_on c.args.roles.now c.args.at Is c.requires.within (sym c.in-Is.ensures) c.args.clause c.args.clause.lists_names c.args.clause.has_use false c.args.clause.has_library c.requires.clause refl refl refl refl refl

pub returns-in-Library : goal.returns-in-Library
returns-in-Library c = clause_goes_on c.args.roles.now c.args.at Library c.requires.within (sym c.in-Library.ensures) c.args.clause c.args.clause.lists_names c.args.clause.has_use c.args.clause.has_context true c.requires.clause refl refl refl refl refl

pub returns-in-Use : goal.returns-in-Use
returns-in-Use c = clause_goes_on c.args.roles.now c.args.at Use c.requires.within (sym c.in-Use.ensures) c.args.clause true true c.args.clause.has_context c.args.clause.has_library c.requires.clause refl refl refl refl refl

pub returns-in-Context : goal.returns-in-Context
returns-in-Context c = clause_goes_on c.args.roles.now c.args.at Context c.requires.within (sym c.in-Context.ensures) c.args.clause true c.args.clause.has_use true c.args.clause.has_library c.requires.clause refl refl refl refl refl

pub returns-in_default : goal.returns-in_default
returns-in_default c =
    let role = c.role_at.result in
    let other = not_semicolon role c.in_default.not-Semicolon in
    clause_goes_on c.args.roles.now c.args.at role c.requires.within (sym c.role_at.ensures) c.args.clause c.args.clause.lists_names c.args.clause.has_use c.args.clause.has_context c.args.clause.has_library c.requires.clause other
    (ap (λ (b : Bool). b || c.args.clause.lists_names) (not_listing role c.in_default.not-Use c.in_default.not-Context))
    (ap (λ (b : Bool). b || c.args.clause.has_use) (not_use role c.in_default.not-Use))
    (ap (λ (b : Bool). not b && (is_context_word role || c.args.clause.has_context)) (not_end role c.in_default.not-Semicolon c.in_default.not-Is) ∙ ap (λ (b : Bool). b || c.args.clause.has_context) (not_context role c.in_default.not-Context))
    (ap (λ (b : Bool). b || c.args.clause.has_library) (not_library role c.in_default.not-Library))
