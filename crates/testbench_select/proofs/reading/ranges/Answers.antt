-- Nothing is left.
use Rattle.std.proofs.Common.{◌∙◌, ◌++◌, sym, ap}
use Rattle.std.proofs.lemmas.List.{append-nil}
use Rattle.testbench_select.proofs.Sets.{no_ranges}
use Rattle.testbench_select.proofs.reading.ranges.Goals as goal

pub returns : goal.returns
returns c = sym (append-nil c.loop-rest.ranges) ∙ sym (ap (λ rest. c.loop-rest.ranges ++ rest) (no_ranges c.loop-rest.rest.now c.in_default.len_below)) ∙ c.loop-rest.invariant
