-- What remains to be proved of `are_all_deps`.
use Rattle.std.proofs.Common.{arith, sym, subst, ◌∙◌, ◌≡◌, ℕ, [], length, refl, inl, inr}
use Rattle.std.proofs.lemmas.Bool.{cases_lt, false≢true}
use Rattle.std.proofs.lemmas.List.{get_or_default}
use Rattle.order.specs.BuildOrder.{deps_in}
use Rattle.tests_vhdl.specs.Deps.{AreDeps}
use Rattle.tests_vhdl.proofs.tests.edges.are_all_deps.Goals as goal

pub returns-then-not-are_deps : goal.returns-then-not-are_deps
returns-then-not-are_deps c =
    let same : c.as_slice.result.now ≡ deps_in c.args.edges.now c.loop-file.file = c.as_slice.ensures ∙ c.index-edges-file.is ∙ get_or_default c.args.edges.now c.loop-file.file c.index-edges-file.result [] c.loop-file-test.true in (
      λ never. absurd (false≢true never),
      λ all. sym c.if-not-are_deps.true ∙ c.are_deps.ensures.1 (subst (AreDeps (length c.args.edges.now) c.loop-file.file) (sym same) (all c.loop-file.file c.loop-file-test.true)),
    )

pub loop-file-preserved : goal.loop-file-preserved
loop-file-preserved c k lt =
    let same : c.as_slice.result.now ≡ deps_in c.args.edges.now c.loop-file.file = c.as_slice.ensures ∙ c.index-edges-file.is ∙ get_or_default c.args.edges.now c.loop-file.file c.index-edges-file.result [] c.loop-file-test.true in
    let here : AreDeps (length c.args.edges.now) c.loop-file.file (deps_in c.args.edges.now c.loop-file.file) = subst (AreDeps (length c.args.edges.now) c.loop-file.file) same (c.are_deps.ensures.0 c.if-not-are_deps.false) in
    elim (cases_lt k c.loop-file.file) [
      | inl l ↦ c.loop-file.invariant k l
      | inr l ↦ let e : c.loop-file.file ≡ k = omega arith in subst (λ (file : ℕ). AreDeps (length c.args.edges.now) file (deps_in c.args.edges.now file)) e here
    ]

pub returns : goal.returns
returns c = ((λ is_true. λ file lt. c.loop-file.invariant file (omega arith)), λ all. refl)
