-- One token more from the right.
use Rattle.std.proofs.Common.{◌≡◌, ◌+◌, ◌-◌, ◌<◌, ℕ, List, sym, ◌∙◌, subst, arith}
use Rattle.base.specs.declared.design.Role.{Role}
use Rattle.vhdl_units.specs.Delimiters.{AreDelimiters, IsDelimiter, IsSubprogramWord}
use Rattle.vhdl_units.proofs.DelimiterTable.{Filled, filled_end, level_some, level_within, fill_opening, fill_closing, fill_delimiter, fill_word, fill_other}
use Rattle.vhdl_units.proofs.delimiters.fill.Goals as goal

one_before : (roles : List Role) (nearest delimiters : List ℕ) (level at : ℕ) → 0 < at → Filled roles nearest delimiters level at → Filled roles nearest delimiters level (at - 1 + 1)
one_before roles nearest delimiters level at some filled = let is : at ≡ at - 1 + 1 = omega arith in subst (Filled roles nearest delimiters level) is filled

pub loop-at-init : goal.loop-at-init
loop-at-init c = filled_end c.args.roles.now c.args.nearest.now c.args.delimiters.now c.openings-level.result c.openings-level.ensures c.requires.nearest c.requires.entries

pub overflow_sub-level : goal.overflow_sub-level
overflow_sub-level c = level_some c.args.roles.now c.loop-at.nearest c.loop-at.delimiters c.loop-at.level (c.loop-at.at - 1) (one_before c.args.roles.now c.loop-at.nearest c.loop-at.delimiters c.loop-at.level c.loop-at.at c.loop-at-test.true c.loop-at.invariant) (sym c.in-Opening.ensures)

pub loop-at-preserved-in-Opening : goal.loop-at-preserved-in-Opening
loop-at-preserved-in-Opening c = fill_opening c.args.roles.now c.loop-at.nearest c.loop-at.delimiters c.loop-at.level (c.loop-at.at - 1) (one_before c.args.roles.now c.loop-at.nearest c.loop-at.delimiters c.loop-at.level c.loop-at.at c.loop-at-test.true c.loop-at.invariant) (sym c.in-Opening.ensures)

pub overflow_add-level : goal.overflow_add-level
overflow_add-level c = omega (arith, level_within c.args.roles.now c.loop-at.nearest c.loop-at.delimiters c.loop-at.level (c.loop-at.at - 1) (one_before c.args.roles.now c.loop-at.nearest c.loop-at.delimiters c.loop-at.level c.loop-at.at c.loop-at-test.true c.loop-at.invariant), c.requires.small)

pub loop-at-preserved-in-Closing : goal.loop-at-preserved-in-Closing
loop-at-preserved-in-Closing c = fill_closing c.args.roles.now c.loop-at.nearest c.loop-at.delimiters c.loop-at.level (c.loop-at.at - 1) (one_before c.args.roles.now c.loop-at.nearest c.loop-at.delimiters c.loop-at.level c.loop-at.at c.loop-at-test.true c.loop-at.invariant) (sym c.in-Closing.ensures)

pub offset_bounds-nearest-level : goal.offset_bounds-nearest-level
offset_bounds-nearest-level c = omega (arith, level_within c.args.roles.now c.loop-at.nearest c.loop-at.delimiters c.loop-at.level (c.loop-at.at - 1) (one_before c.args.roles.now c.loop-at.nearest c.loop-at.delimiters c.loop-at.level c.loop-at.at c.loop-at-test.true c.loop-at.invariant), c.requires.small)

pub bounds-nearest-level : goal.bounds-nearest-level
bounds-nearest-level c = omega (arith, level_within c.args.roles.now c.loop-at.nearest c.loop-at.delimiters c.loop-at.level (c.loop-at.at - 1) (one_before c.args.roles.now c.loop-at.nearest c.loop-at.delimiters c.loop-at.level c.loop-at.at c.loop-at-test.true c.loop-at.invariant), c.loop-at.invariant.nearest_are.entries)

pub loop-at-preserved-in-Is : goal.loop-at-preserved-in-Is
loop-at-preserved-in-Is c = fill_delimiter c.args.roles.now c.loop-at.nearest c.loop-at.delimiters c.loop-at.level (c.loop-at.at - 1) (one_before c.args.roles.now c.loop-at.nearest c.loop-at.delimiters c.loop-at.level c.loop-at.at c.loop-at-test.true c.loop-at.invariant) (subst IsDelimiter c.role_at.ensures c.in-Is.is)

pub offset_bounds-nearest-level-in-Function : goal.offset_bounds-nearest-level-in-Function
offset_bounds-nearest-level-in-Function c = omega (arith, level_within c.args.roles.now c.loop-at.nearest c.loop-at.delimiters c.loop-at.level (c.loop-at.at - 1) (one_before c.args.roles.now c.loop-at.nearest c.loop-at.delimiters c.loop-at.level c.loop-at.at c.loop-at-test.true c.loop-at.invariant), c.requires.small)

pub bounds-nearest-level-in-Function : goal.bounds-nearest-level-in-Function
bounds-nearest-level-in-Function c = omega (arith, level_within c.args.roles.now c.loop-at.nearest c.loop-at.delimiters c.loop-at.level (c.loop-at.at - 1) (one_before c.args.roles.now c.loop-at.nearest c.loop-at.delimiters c.loop-at.level c.loop-at.at c.loop-at-test.true c.loop-at.invariant), c.loop-at.invariant.nearest_are.entries)

pub loop-at-preserved-in-Function : goal.loop-at-preserved-in-Function
loop-at-preserved-in-Function c = fill_word c.args.roles.now c.loop-at.nearest c.loop-at.delimiters c.loop-at.level (c.loop-at.at - 1) (one_before c.args.roles.now c.loop-at.nearest c.loop-at.delimiters c.loop-at.level c.loop-at.at c.loop-at-test.true c.loop-at.invariant) (subst IsSubprogramWord c.role_at.ensures c.in-Function.is)

pub loop-at-preserved : goal.loop-at-preserved
loop-at-preserved c =
    fill_other c.args.roles.now c.loop-at.nearest c.loop-at.delimiters c.loop-at.level (c.loop-at.at - 1) (one_before c.args.roles.now c.loop-at.nearest c.loop-at.delimiters c.loop-at.level c.loop-at.at c.loop-at-test.true c.loop-at.invariant) (λ is. c.in_default.not-Opening (c.role_at.ensures ∙ is)) (λ is. c.in_default.not-Closing (c.role_at.ensures ∙ is)) (λ is. c.in_default.not-Is (c.role_at.ensures ∙ is)) (λ is. c.in_default.not-Semicolon (c.role_at.ensures ∙ is)) (λ is. c.in_default.not-Function (c.role_at.ensures ∙ is)) (λ is. c.in_default.not-Procedure (c.role_at.ensures ∙ is))

pub returns : goal.returns
returns c = let is : c.loop-at.at ≡ 0 = omega (arith, c.loop-at-test.false) in subst (λ (n : ℕ). AreDelimiters c.args.roles.now n c.loop-at.delimiters) is c.loop-at.invariant.delimiters_are
