use Rattle.std.proofs.Common.{◌≡◌, ◌≢◌, ◌<◌, ◌≤◌, ◌+◌, ◌-◌, ◌∙◌, ℕ, List, length, get_or, true, false, ap, refl, sym, subst, arith}
use Rattle.std.specs.Prelude.{All, slice_index}
use Rattle.base.specs.declared.graph.Entry.{Entry}
use Rattle.tests_graphs.specs.Validity.{Covers}
use Rattle.tests_graphs.proofs.Closings.{Goes, starts, passes, looks, finishes, all_flagged}
use Rattle.tests_graphs.proofs.closed.all_cover.Goals as goal
use Rattle.tests_graphs.proofs.closed.all_cover.Goals.{else-state-dep-eq1-via-then-state-dep-eq1+else-not-cover, else-state-dep-eq1-via-else-state-dep-eq1}

differ : false ≡ true → ⊥
differ e = cc

pub loop-k-init : goal.loop-k-init
loop-k-init c = starts c.args.entries.now c.args.deps.now c.args.state.now c.requires.flagged

pub returns-then-not-cover : goal.returns-then-not-cover
returns-then-not-cover c =
    let low : c.loop-k.k - 1 < length c.args.deps.now = omega (arith, c.loop-k-test.true, c.loop-k.invariant.low) in (
      λ f. absurd (differ f),
      λ holds. c.if-not-cover.ensures.only (subst (All (λ dep. slice_index c.loop-k.state dep ≢ 0)) (ap (λ (e : Entry). e.deps) c.index-entries-dep.is ∙ sym c.as_slice.ensures)
          (all_flagged c.args.entries.now c.args.deps.now c.args.state.now c.loop-k.state c.loop-k.k (c.loop-k.k - 1) c.index-entries-dep.result low c.index-entries-dep.is c.loop-k.invariant holds)),
    )

pub loop-k-preserved : goal.loop-k-preserved
loop-k-preserved c =
    let next : c.loop-k.k ≡ c.loop-k.k - 1 + 1 = omega (arith, c.loop-k-test.true) in
    let low : c.loop-k.k - 1 + 1 ≤ length c.args.deps.now = omega (arith, c.loop-k-test.true, c.loop-k.invariant.low) in
    let before : Goes c.args.entries.now c.args.deps.now c.args.state.now c.loop-k.state (c.loop-k.k - 1 + 1) = subst (Goes c.args.entries.now c.args.deps.now c.args.state.now c.loop-k.state) next c.loop-k.invariant in
    let within : get_or c.args.deps.now (c.loop-k.k - 1) 0 < length c.args.entries.now = omega (arith, c.requires.within (c.loop-k.k - 1) 0 (omega (arith, low)), c.requires.few) in
    elim c.else-state-dep-eq1.branch [
      | else-state-dep-eq1-via-then-state-dep-eq1+else-not-cover w ↦
          let held : All (λ dep. slice_index c.loop-k.state dep ≢ 0) w.index-entries-dep.result.deps = subst (All (λ dep. slice_index c.loop-k.state dep ≢ 0)) (w.as_slice.ensures ∙ ap (λ (e : Entry). e.deps) (sym w.index-entries-dep.is)) (w.if-not-cover.ensures.held refl) in
          subst (λ (state : List ℕ). Goes c.args.entries.now c.args.deps.now c.args.state.now state (c.loop-k.k - 1)) (sym w.state-is)
          (looks c.args.entries.now c.args.deps.now c.args.state.now c.loop-k.state w.cover.new.state (c.loop-k.k - 1) w.index-entries-dep.result low within w.index-entries-dep.is w.if-not-cover.ensures.length before held
          (subst (λ (ds : List ℕ). Covers ds c.loop-k.state w.cover.new.state (length ds)) (w.as_slice.ensures ∙ ap (λ (e : Entry). e.deps) (sym w.index-entries-dep.is)) (w.if-not-cover.ensures.flags refl)))
      | else-state-dep-eq1-via-else-state-dep-eq1 w ↦
          subst (λ (state : List ℕ). Goes c.args.entries.now c.args.deps.now c.args.state.now state (c.loop-k.k - 1)) (sym w.state-is)
          (passes c.args.entries.now c.args.deps.now c.args.state.now c.loop-k.state (c.loop-k.k - 1) c.requires.closed c.requires.within low before w.if-state-dep-eq1.false)
    ]

pub returns : goal.returns
returns c = (λ t. finishes c.args.entries.now c.args.deps.now c.args.state.now c.loop-k.state c.loop-k.k c.loop-k-test.false c.loop-k.invariant, λ h. refl)
