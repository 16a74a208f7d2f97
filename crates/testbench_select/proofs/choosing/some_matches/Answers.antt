-- The pattern here matches, or doesn't.
use Rattle.std.proofs.Common.{◌≡◌, ℕ, ◌<◌, Bool, ◌||◌, List, [], length, get_or, sym, ◌∙◌, ap, arith}
use Rattle.std.specs.Prelude.{Some, slice_get}
use Rattle.std.proofs.lemmas.List.Folds.{list_any_at, list_any_more}
use Rattle.std.proofs.lemmas.Option.{get_or_from_slice_get}
use Rattle.testbench_select.specs.declared.pattern.PatternPart.{PatternPart}
use Rattle.testbench_select.specs.Segments.{is_match}
use Rattle.testbench_select.specs.Choosing.{matches_at}
use Rattle.testbench_select.proofs.choosing.some_matches.Goals as goal

here : (patterns : List (List PatternPart)) (name : List ℕ) (number : ℕ) (pattern : List PatternPart) (answer : Bool) → slice_get patterns number ≡ Some pattern → answer ≡ is_match pattern name → matches_at patterns name number ≡ answer
here patterns name number pattern answer got is = ap (λ (pattern_parts : List PatternPart). is_match pattern_parts name) (get_or_from_slice_get patterns number pattern [] got) ∙ sym is

pub returns-then-matches : goal.returns-then-matches
returns-then-matches c =
    let within : c.loop-number.number-index < length c.args.numbers.now = omega arith in
    sym (list_any_at (matches_at c.args.patterns.now c.args.name.now) c.args.numbers.now c.loop-number.number-index 0 within
    (here c.args.patterns.now c.args.name.now (get_or c.args.numbers.now c.loop-number.number-index 0) c.get.result.now c.matches.result c.get.ensures c.matches.ensures.test ∙ c.if-matches.true))

pub loop-number-preserved : goal.loop-number-preserved
loop-number-preserved c =
    let within : c.loop-number.number-index < length c.args.numbers.now = omega arith in
    list_any_more (matches_at c.args.patterns.now c.args.name.now) c.args.numbers.now c.loop-number.number-index 0 within
    ∙ ap (λ (b : Bool). b || matches_at c.args.patterns.now c.args.name.now (get_or c.args.numbers.now c.loop-number.number-index 0)) c.loop-number.invariant
    ∙ (here c.args.patterns.now c.args.name.now (get_or c.args.numbers.now c.loop-number.number-index 0) c.get.result.now c.matches.result c.get.ensures c.matches.ensures.test ∙ c.if-matches.false)
