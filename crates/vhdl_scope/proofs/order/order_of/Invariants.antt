-- All steps and indices are below the number of indices.
use Rattle.std.proofs.Common.{◌≡◌, ◌<◌, length}
use Rattle.std.specs.List.{All}
use Rattle.vhdl_scope.specs.Order.{AreStepsBelow}
use Rattle.vhdl_scope.proofs.order.order_of.Given as goal

abbrev pub invariant-loop-at : goal.invariant-loop-at
invariant-loop-at l = record {
  each : length l.flags.items ≡ length l.links;
  steps : AreStepsBelow (length l.links) l.steps.items;
  order : All (λ at. at < length l.links) l.order.items;
}
