use Rattle.std.proofs.Common.{◌≢◌, ◌<◌, ◌∙◌, ℕ, length, get_or, subst, refl, arith, inl}
use Rattle.std.specs.Prelude.{slice_index}
use Rattle.std.proofs.lemmas.List.{get_or_default, length-set}
use Rattle.tests_graphs.proofs.Flags.{covers_more, held_more, misses}
use Rattle.tests_graphs.proofs.closed.cover.Goals as goal

pub loop-dep-init : goal.loop-dep-init
loop-dep-init c = record { count = refl; held = λ k l. absurd (omega arith); flags = λ position. inl refl }

pub returns-then-state-dep-eq0-clause-only : goal.returns-then-state-dep-eq0-clause-only
returns-then-state-dep-eq0-clause-only c = λ all.
    absurd (misses c.args.deps.now c.args.state.now c.loop-dep.state c.loop-dep.dep-index c.loop-dep.invariant.flags c.if-state-dep-eq0.true (all c.loop-dep.dep-index 0 c.loop-dep-test.true))

pub loop-dep-preserved : goal.loop-dep-preserved
loop-dep-preserved c =
    let within : get_or c.args.deps.now c.loop-dep.dep-index 0 < length c.loop-dep.state = omega (arith, c.requires c.loop-dep.dep-index 0 c.loop-dep-test.true, c.loop-dep.invariant.count) in
    record {
      count = length-set _ _ _ ∙ c.loop-dep.invariant.count;
      held = held_more c.args.deps.now c.args.state.now c.loop-dep.state c.loop-dep.dep-index c.loop-dep.invariant.flags c.if-state-dep-eq0.false c.loop-dep.invariant.held;
      flags = covers_more c.args.deps.now c.args.state.now c.loop-dep.state c.loop-dep.dep-index c.loop-dep-test.true within c.loop-dep.invariant.flags c.if-state-dep-eq0.false;
    }

pub returns-clause-held : goal.returns-clause-held
returns-clause-held c = λ t k d l. subst (λ (n : ℕ). slice_index c.args.state.now n ≢ 0) (get_or_default c.args.deps.now k 0 d l) (c.loop-dep.invariant.held k (omega (arith, c.loop-dep-test.false)))
