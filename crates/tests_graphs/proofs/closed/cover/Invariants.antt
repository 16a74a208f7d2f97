use Rattle.std.proofs.Common.{◌≡◌, ◌≢◌, ℕ, ◌<◌, length, get_or}
use Rattle.std.specs.Prelude.{slice_index}
use Rattle.tests_graphs.specs.Validity.{Covers}
use Rattle.tests_graphs.proofs.closed.cover.Given as goal

abbrev pub invariant-loop-dep : goal.invariant-loop-dep
invariant-loop-dep l = record {
  count : length l.state ≡ length l.fn.state;
  held : (k : ℕ) → k < l.dep-index → slice_index l.fn.state (get_or l.deps k 0) ≢ 0;
  flags : Covers l.deps l.fn.state l.state l.dep-index;
}
