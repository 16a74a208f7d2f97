-- The ranks of the files that tests need, from the set of them.
use Rattle.std.proofs.Common.{◌≡◌, ℕ, ◌<◌, Bool, List, length, sym, ap, ◌∙◌, arith}
use Rattle.std.specs.Prelude.{All, filter, slice_index}
use Rattle.base.specs.PresentGraph.{below}
use Rattle.base.proofs.Below.{length-below, get_or-below}
use Rattle.base_outcomes.specs.declared.bench.Bench.{Bench}
use Rattle.order.proofs.Finds.{filter_below}
use Rattle.project_minimal.specs.MinimalSet.{NeedSources, is_needed, needed_ranks}

module _ (said : NeedSources) (tests : List Bench) (set : ℕ → Bool) (same : (at : ℕ) → at < length said.files → set at ≡ is_needed said tests at) where
  pub same_ranks : (order : List ℕ) → All (λ at. at < length said.files) order → filter (λ rank. set (slice_index order rank)) (below (length order)) ≡ needed_ranks said tests order
  same_ranks order within =
      filter_below (λ rank. set (slice_index order rank)) (λ rank. is_needed said tests (slice_index order rank)) (length order) (λ k low. same (slice_index order k) (within k 0 low))

  pub same_positions : (count : ℕ) → count ≡ length said.files → filter set (below count) ≡ needed_ranks said tests (below count)
  same_positions count all =
      filter_below set (λ rank. is_needed said tests (slice_index (below count) rank)) count (λ k low. same k (omega (arith, low, all)) ∙ ap (is_needed said tests) (sym (get_or-below count k 0 low)))
      ∙ ap (λ (n : ℕ). filter (λ rank. is_needed said tests (slice_index (below count) rank)) (below n)) (sym (length-below count))
