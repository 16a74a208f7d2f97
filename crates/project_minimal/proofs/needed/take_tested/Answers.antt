-- One bench more.
use Rattle.std.proofs.Common.{◌+◌, ◌==◌, ◌&&◌, ◌||◌, ◌∙◌, Bool, nat_lt, refl, sym, take, ap}
use Rattle.std.proofs.lemmas.List.Folds.{list_any_more}
use Rattle.base_outcomes.specs.declared.bench.Bench.{Bench}
use Rattle.project_minimal.specs.MinimalSet.{is_tested}
use Rattle.project_minimal.proofs.TakingLemmas.{grows_none, grows_on, or_and, takes_none, takes_on}
use Rattle.project_minimal.proofs.needed.take_tested.Goals as goal

pub loop-bench-init : goal.loop-bench-init
loop-bench-init c = record { grows = grows_none c.args.count c.args.taken.now c.requires.before; takes = takes_none _ c.args.taken.now (λ at. refl) }

pub take_within-requires-clause-before : goal.take_within-requires-clause-before
take_within-requires-clause-before c = c.loop-bench.invariant.grows.are

pub loop-bench-preserved : goal.loop-bench-preserved
loop-bench-preserved c = record {
  grows = grows_on c.args.count c.args.taken.now c.loop-bench.taken c.take_within.new.taken c.loop-bench.invariant.grows c.in_ok-take_within.ensures.grows;
  takes = takes_on _ _ (λ at. is_tested (take (c.loop-bench.bench-index + 1) c.args.tests.now) at && nat_lt at c.args.count) c.args.taken.now c.loop-bench.taken c.take_within.new.taken c.loop-bench.invariant.takes c.in_ok-take_within.ensures.takes
      (λ at. ap (λ (b : Bool). b && nat_lt at c.args.count) (list_any_more (λ (bench : Bench). bench.file == at) c.args.tests.now c.loop-bench.bench-index c.bench-item.result c.loop-bench-test.true ∙ ap (λ (bench : Bench). is_tested (take c.loop-bench.bench-index c.args.tests.now) at || (bench.file == at)) (sym c.bench-item.is)) ∙ or_and _ _ (nat_lt at c.args.count));
}
