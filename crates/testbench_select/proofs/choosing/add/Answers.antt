-- A pattern that matches all names, and a name.
use Rattle.std.proofs.Common.{◌≡◌, ℕ, List, [], Some, map, ◌∙◌, ap}
use Rattle.std.proofs.Common.{Option, Vec, Global, subst}
use Rattle.std.specs.Prelude.{slice_index_or, IfSome}
use Rattle.testbench_select.specs.declared.pattern.PatternPart.TheVariants.{Byte}
use Rattle.std.proofs.lemmas.Option.{get_or_from_slice_get}
use Rattle.testbench_select.specs.declared.pattern.PatternPart.{PatternPart}
use Rattle.testbench_select.specs.Segments.{is_match}
use Rattle.testbench_select.specs.Choosing.{is_chosen, matches_at, is_asked_for, some_matches}
use Rattle.testbench_select.proofs.Chosen.{all_match, all_more, name_more, plain_matches}
use Rattle.testbench_select.proofs.choosing.add.Goals as goal

pub returns-then-is_all-clause-exact : goal.returns-then-is_all-clause-exact
returns-then-is_all-clause-exact c name =
    let here : slice_index_or c.args.patterns.now c.args.number [] ≡ c.get-pattern.result.now = get_or_from_slice_get c.args.patterns.now c.args.number c.get-pattern.result.now [] c.get-pattern.ensures in
    all_more (is_chosen c.args.patterns.now c.args.choice.now name) (matches_at c.args.patterns.now name c.args.number)
    (ap (λ (pattern_parts : List PatternPart). is_match pattern_parts name) (here ∙ c.is_all.ensures c.if-is_all.true) ∙ all_match name)

pub returns-in_ok-add_name-in-Some-clause-exact : goal.returns-in_ok-add_name-in-Some-clause-exact
returns-in_ok-add_name-in-Some-clause-exact c name =
    let here : slice_index_or c.args.patterns.now c.args.number [] ≡ c.get-pattern.result.now = get_or_from_slice_get c.args.patterns.now c.args.number c.get-pattern.result.now [] c.get-pattern.ensures in
    let told : IfSome (Some c.in-Some.name) (λ name. c.get-pattern.result.now ≡ map Byte name.items) = subst (λ (o : Option (Vec ℕ Global)). IfSome o (λ name. c.get-pattern.result.now ≡ map Byte name.items)) c.in-Some.is c.in_ok-name.ensures in
    let named : c.get-pattern.result.now ≡ map Byte c.in-Some.name.items = told in
    name_more c.args.choice.now.all (is_asked_for c.args.choice.now.plain name) (some_matches c.args.patterns.now c.args.choice.now.others.items name) (is_asked_for c.add_name.new.names name) _ _
    (c.in_ok-add_name-in-Some.ensures name)
    (ap (λ (pattern_parts : List PatternPart). is_match pattern_parts name) (here ∙ named) ∙ plain_matches c.in-Some.name.items name)
