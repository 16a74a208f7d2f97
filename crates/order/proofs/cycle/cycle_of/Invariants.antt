-- What the loop of `cycle_of` keeps: the way from here on leads to the same cycle, and what was passed is marked.
use Rattle.std.proofs.Common.{◌≡◌, ℕ, suc, ◌+◌, ◌<◌, false, List, [], length, get_or}
use Rattle.order.specs.BuildOrder.{has_taken, first_untaken, untaken_dep, repeated}
use Rattle.order.specs.Untakens.{AreWaiting}
use Rattle.order.proofs.cycle.cycle_of.Given as goal

abbrev pub invariant-loop-step : goal.invariant-loop-step
invariant-loop-step l = record {
  as_many : length l.is_passed.items ≡ length l.edges;
  within : l.file < length l.edges;
  flagged : (k : ℕ) → k < length l.edges → get_or l.is_passed.items k false ≡ has_taken l.passed.items k;
  leads : (taken : List ℕ) → AreWaiting l.waiting (length l.edges) taken → (left : ℕ) → left + l._step ≡ suc (length l.edges)
      → repeated (untaken_dep l.edges taken) left l.passed.items l.file ≡ repeated (untaken_dep l.edges taken) (suc (length l.edges)) [] (first_untaken l.edges taken);
}
