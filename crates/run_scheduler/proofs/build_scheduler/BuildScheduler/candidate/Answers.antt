-- What remains to be proved of `candidate`.
use Rattle.std.proofs.Common.{sym, ◌∙◌}
use Rattle.std.proofs.lemmas.Bool.{cond-true, cond-false}
use Rattle.base_collections.specs.Positions.{has}
use Rattle.run_scheduler.specs.Machines.{candidate_of, files_of}
use Rattle.run_scheduler.proofs.Passing.{next_first}
use Rattle.run_scheduler.proofs.build_scheduler.BuildScheduler.candidate.Goals as goal

pub returns-then-is_free : goal.returns-then-is_free
unfolding candidate_of files_of
returns-then-is_free c =
    sym (cond-true _ _ _ (sym c.is_free.ensures ∙ c.if-is_free.true) ∙ next_first (has c.args.self.now.ready) _ c.next_from.result c.next_from.ensures c.args.self.now.past)

pub returns-else-is_free : goal.returns-else-is_free
unfolding candidate_of
returns-else-is_free c = sym (cond-false _ _ _ (sym c.is_free.ensures ∙ c.if-is_free.false))
