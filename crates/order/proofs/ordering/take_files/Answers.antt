-- What remains to be proved of `take_files`.
use Rattle.std.proofs.Common.{◌∙◌, sym, ap, subst, List, ℕ, ◌≡◌, suc, ◌+◌, arith}
use Rattle.order.specs.BuildOrder.{taken_after, with_taken, first_free}
use Rattle.order.specs.Untakens.{IsUntaken}
use Rattle.order.proofs.ordering.take_files.Goals as goal

pub loop-step-init : goal.loop-step-init
unfolding taken_after
loop-step-init c = record { order = c.new-order.ensures; left = subst (IsUntaken c.args.left.now c.args.edges.now) (sym c.new-order.ensures) c.requires }

pub loop-step-preserved : goal.loop-step-preserved
unfolding taken_after
loop-step-preserved c =
    let more = c.in_ok-take_next.ensures c.args.edges.now c.loop-step.invariant.left in
    let next : c.loop-step._step + 1 ≡ suc c.loop-step._step = omega arith in
    record {
      order = more.0 ∙ ap (λ (taken : List ℕ). with_taken taken (first_free c.args.edges.now taken)) c.loop-step.invariant.order ∙ sym (ap (taken_after c.args.edges.now) next);
      left = more.1;
    }
