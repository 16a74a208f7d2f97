-- The next pattern parts for one byte each, at their first index, or at the end of the name.
use Rattle.std.proofs.Common.{◌∙◌, ◌+◌, sym, length}
use Rattle.std.proofs.lemmas.List.{take_rest}
use Rattle.testbench_select.proofs.Left.{ends_left, not_ended, found_left, none_left}
use Rattle.testbench_select.proofs.matching.after_any.Goals as goal

pub returns-then-ends : goal.returns-then-ends
returns-then-ends c =
    let left = ends_left c.args.others.now c.split_at_star.result.0.now c.split_at_star.result.1.now c.args.name.now _ c.split_at_star.ensures.parts c.split_at_star.ensures.single (sym c.is_empty.ensures ∙ c.if-is_empty.true) (sym c.ends.ensures ∙ c.if-ends.true) (take_rest c.args.name.now (length c.args.name.now)) in
    record { begins = left.begins; fewer = left.fewer; same = left.same }

pub returns-then-is_empty : goal.returns-then-is_empty
returns-then-is_empty c = not_ended c.args.others.now c.split_at_star.result.0.now c.split_at_star.result.1.now c.args.name.now c.split_at_star.ensures.parts c.split_at_star.ensures.single (sym c.is_empty.ensures ∙ c.if-is_empty.true) (sym c.ends.ensures ∙ c.if-ends.false)

pub returns-in-Some : goal.returns-in-Some
returns-in-Some c =
    let left = found_left c.args.others.now c.split_at_star.result.0.now c.split_at_star.result.1.now c.args.name.now _ c.in-Some.at c.split_at_star.ensures.parts c.split_at_star.ensures.single (sym c.is_empty.ensures ∙ c.if-is_empty.false) c.split_at_star.ensures.after c.in-Some.ensures.part_index (take_rest c.args.name.now (c.in-Some.at + length c.split_at_star.result.0.now)) in
    record { begins = left.begins; fewer = left.fewer; same = left.same }

pub returns-in-None : goal.returns-in-None
returns-in-None c = none_left c.args.others.now c.split_at_star.result.0.now c.split_at_star.result.1.now c.args.name.now c.split_at_star.ensures.parts c.split_at_star.ensures.single c.in-None.ensures.part_index
