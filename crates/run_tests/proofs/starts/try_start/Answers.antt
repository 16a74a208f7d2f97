-- Answers to the goals of `try_start`.
use Rattle.std.proofs.Common.{[], ◌∷◌, ◌++◌, ap, ◌∙◌}
use Rattle.base.specs.declared.child.Event.TheVariants.{Started}
use Rattle.base.specs.declared.child.Request.{Request}
use Rattle.run_tests.proofs.starts.try_start.Goals as goal

pub returns-in-Ok-clause-journal : goal.returns-in-Ok-clause-journal
returns-in-Ok-clause-journal g c = λ tells. c.in-Ok.ensures.journal tells ∙ ap (λ (r : Request). g.P.Procs.journal c.args.procs.now ++ Started c.in-Ok.ticket r ∷ []) c.in_ok-request.ensures
