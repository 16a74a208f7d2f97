-- What remains to be proved of `cycle_of`.
use Rattle.std.proofs.Common.{arith, ap, subst, sym, ◌∙◌, ◌≡◌, ◌+◌, ◌<◌, ℕ, true, false, List, [], length}
use Rattle.std.specs.Prelude.{All}
use Rattle.std.proofs.lemmas.List.{get_or_default, length-set}
use Rattle.std.proofs.lemmas.Result.{IfOk-weaker}
use Rattle.order.specs.BuildOrder.{has_taken, deps_in}
use Rattle.order.proofs.Waits.{Leads, leads_back, leads_on, leads_out, flagged_more}
use Rattle.order.proofs.cycle.cycle_of.Goals as goal

pub returns-then-index : goal.returns-then-index
returns-then-index c =
    let again : has_taken c.loop-step.passed.items c.loop-step.file ≡ true =
    sym (c.loop-step.invariant.flagged c.loop-step.file c.loop-step.invariant.within)
    ∙ get_or_default c.loop-step.is_passed.items c.loop-step.file false _ (omega (arith, c.loop-step.invariant.as_many, c.loop-step.invariant.within)) ∙ sym c.index.ensures ∙ c.if-index.true in
    IfOk-weaker c.since.result _ _ (λ files same taken waits. same ∙ leads_back c.args.edges.now c.as_slice-edges.result.now c.args.waiting.now c.loop-step.passed.items c.as_slice.result.now c.loop-step.file c.loop-step._step
    c.as_slice-edges.ensures c.as_slice.ensures.value c.loop-step-test.true again c.loop-step.invariant.leads taken waits) c.since.ensures

pub next_waiting-file-requires-clause-deps : goal.next_waiting-file-requires-clause-deps
next_waiting-file-requires-clause-deps c =
    let here : c.as_slice-in-loop-step.result.now ≡ deps_in c.as_slice-edges.result.now c.loop-step.file = c.as_slice-in-loop-step.ensures ∙ c.index-edges-file.is ∙ get_or_default c.as_slice-edges.result.now c.loop-step.file c.index-edges-file.result [] c.loop-step.invariant.within in
    let deps : c.as_slice-in-loop-step.result.now ≡ deps_in c.args.edges.now c.loop-step.file = here ∙ ap (λ (edges : List (List ℕ)). deps_in edges c.loop-step.file) c.as_slice-edges.ensures in
    let within : All (λ dep. dep < length c.args.edges.now) c.as_slice-in-loop-step.result.now = subst (All (λ dep. dep < length c.args.edges.now)) (sym deps) (c.requires.are.within c.loop-step.file) in
    subst (λ (n : ℕ). All (λ dep. dep < n) c.as_slice-in-loop-step.result.now) (sym c.requires.as_many) within

pub loop-step-preserved : goal.loop-step-preserved
loop-step-preserved c =
    let here : c.as_slice-in-loop-step.result.now ≡ deps_in c.as_slice-edges.result.now c.loop-step.file = c.as_slice-in-loop-step.ensures ∙ c.index-edges-file.is ∙ get_or_default c.as_slice-edges.result.now c.loop-step.file c.index-edges-file.result [] c.loop-step.invariant.within in
    let new : has_taken c.loop-step.passed.items c.loop-step.file ≡ false =
    sym (c.loop-step.invariant.flagged c.loop-step.file c.loop-step.invariant.within)
    ∙ get_or_default c.loop-step.is_passed.items c.loop-step.file false _ (omega (arith, c.loop-step.invariant.as_many, c.loop-step.invariant.within)) ∙ sym c.index.ensures ∙ c.if-index.false in
    let flags : c.loop-step.file < length c.loop-step.is_passed.items = omega (arith, c.loop-step.invariant.as_many, c.loop-step.invariant.within) in
    record {
      as_many = length-set c.loop-step.is_passed.items c.loop-step.file true ∙ c.loop-step.invariant.as_many;
      within = omega (arith, c.next_waiting-file.ensures.within, c.requires.as_many, ap (λ (edges : List (List ℕ)). length edges) c.as_slice-edges.ensures);
      flagged = λ k low. flagged_more c.loop-step.is_passed.items c.loop-step.passed.items c.loop-step.file (length c.as_slice-edges.result.now) flags c.loop-step.invariant.flagged k low
          ∙ sym (ap (λ (xs : List ℕ). has_taken xs k) c.in_ok-push.ensures.items);
      leads = subst (λ (xs : List ℕ). Leads c.as_slice-edges.result.now c.args.waiting.now xs c.next_waiting-file.result (c.loop-step._step + 1)) (sym c.in_ok-push.ensures.items)
          (leads_on c.as_slice-edges.result.now c.args.waiting.now c.loop-step.passed.items c.loop-step.file c.loop-step._step c.next_waiting-file.result new
          (λ taken is. c.next_waiting-file.ensures.next c.as_slice-edges.result.now taken is here) c.loop-step.invariant.leads);
    }

pub returns : goal.returns
returns c taken is =
    c.new.ensures ∙ leads_out c.args.edges.now c.as_slice-edges.result.now c.args.waiting.now c.loop-step.passed.items c.loop-step.file c.loop-step._step c.as_slice-edges.ensures (omega (arith, c.loop-step.auto._step-end)) c.loop-step.invariant.leads taken is
