-- All steps and indices are below the number of indices.
use Rattle.std.proofs.Common.{◌≡◌, ◌<◌, length}
use Rattle.std.specs.List.{All}
use Rattle.vhdl_scope.specs.Order.{AreStepsBelow}
use Rattle.vhdl_scope.proofs.order.walk_out.Given as goal

abbrev pub invariant-loop : goal.invariant-loop
invariant-loop l = record {
  each : length l.flags ≡ length l.initial.flags;
  steps : AreStepsBelow (length l.links) l.steps.items;
  order : All (λ at. at < length l.links) l.order.items;
}
