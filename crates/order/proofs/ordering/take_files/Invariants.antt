-- What the loop of `take_files` keeps: the files so far are taken.
use Rattle.std.proofs.Common.{◌≡◌}
use Rattle.order.specs.BuildOrder.{taken_after}
use Rattle.order.specs.Untakens.{IsUntaken}
use Rattle.order.proofs.ordering.take_files.Given as goal

abbrev pub invariant-loop-step : goal.invariant-loop-step
invariant-loop-step l = record {
  order : l.order ≡ taken_after l.edges l._step;
  left : IsUntaken l.left l.edges l.order;
}
