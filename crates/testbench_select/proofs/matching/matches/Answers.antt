-- The pattern parts for one byte each at the start of the name.
use Rattle.std.proofs.Common.{◌∙◌, ◌≡◌, ◌↔◌, false, true, sym, length}
use Rattle.std.proofs.lemmas.List.{take_rest}
use Rattle.testbench_select.specs.Matching.{Matches}
use Rattle.testbench_select.proofs.Decided.{same_test}
use Rattle.testbench_select.proofs.Left.{first_same, no_first}
use Rattle.testbench_select.proofs.matching.matches.Goals as goal

pub returns-then-not-begins : goal.returns-then-not-begins
returns-then-not-begins c =
    let no = no_first c.args.pattern.now c.split_at_star.result.0.now c.split_at_star.result.1.now c.args.name.now (c.split_at_star.ensures.parts ∙ c.pattern_parts.ensures) c.split_at_star.ensures.single (sym c.begins.ensures.is ∙ c.if-not-begins.true) in
    let relation : (false ≡ true) ↔ Matches c.args.pattern.now c.args.name.now = (λ is. (let none : false ≡ true = is in absurd cc), λ is. absurd (no is)) in
    record { relation = relation; test = same_test c.args.pattern.now c.args.name.now false relation }

pub returns : goal.returns
returns c =
    let same = first_same c.args.pattern.now c.split_at_star.result.0.now c.split_at_star.result.1.now c.args.name.now _ (c.split_at_star.ensures.parts ∙ c.pattern_parts.ensures) c.split_at_star.ensures.single (sym c.begins.ensures.is ∙ c.if-not-begins.false) (take_rest c.args.name.now (length c.split_at_star.result.0.now)) in
    let relation : (c.matches_any.result ≡ true) ↔ Matches c.args.pattern.now c.args.name.now = (λ is. same.0 (c.matches_any.ensures.0 is), λ is. c.matches_any.ensures.1 (same.1 is)) in
    record { relation = relation; test = same_test c.args.pattern.now c.args.name.now c.matches_any.result relation }
