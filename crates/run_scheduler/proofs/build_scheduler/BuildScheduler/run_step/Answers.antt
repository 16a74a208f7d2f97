-- What remains to be proved of `run_step`.
use Rattle.std.proofs.Common.{arith, sym, ap, ◌∙◌, ◌==◌, ◌≡◌, length}
use Rattle.std.specs.Vec.{vec_len}
use Rattle.run_spec.specs.Steps.{step_of}
use Rattle.run_spec.proofs.PlainSteps.{step_finished, step_wait}
use Rattle.run_scheduler.proofs.build_scheduler.BuildScheduler.run_step.Goals as goal

pub returns-in-Some : goal.returns-in-Some
returns-in-Some c = ap (λ o. step_of o (length c.args.self.now.children.items == 0)) (sym c.in-Some.is ∙ c.candidate.ensures)

pub returns-then-is_empty : goal.returns-then-is_empty
returns-then-is_empty c =
    let count : length c.args.self.now.children.items ≡ vec_len c.args.self.now.children = omega arith in
    step_finished _ _ (sym c.candidate.ensures ∙ c.in-None.is) (ap (λ n. n == 0) count ∙ sym c.is_empty.ensures ∙ c.if-is_empty.true)

pub returns-else-is_empty : goal.returns-else-is_empty
returns-else-is_empty c =
    let count : length c.args.self.now.children.items ≡ vec_len c.args.self.now.children = omega arith in
    step_wait _ _ (sym c.candidate.ensures ∙ c.in-None.is) (ap (λ n. n == 0) count ∙ sym c.is_empty.ensures ∙ c.if-is_empty.false)
