-- A run more, or the last one goes on.
use Rattle.std.proofs.Common.{◌≡◌, ◌∷◌, ◌++◌, ◌∙◌, [], List, ap, subst, sym}
use Rattle.std.proofs.lemmas.List.{append-nil}
use Rattle.std.proofs.lemmas.Result.{on_ok_weaker}
use Rattle.vhdl_scope.specs.declared.row.Run.{Run}
use Rattle.vhdl_scope.specs.Rows.{AreRunsTo}
use Rattle.vhdl_scope.proofs.RowLemmas.{run_more}
use Rattle.vhdl_scope.proofs.row.push_run.Goals as goal

pub returns-in_ok-push-in-None : goal.returns-in_ok-push-in-None
returns-in_ok-push-in-None c start words so_far more is =
    let same : c.pop.new.self.items ≡ c.args.runs.now.items = sym (c.in-None.ensures.items ∙ append-nil c.pop.new.self.items) in
    subst (AreRunsTo c.args.end words) (sym (c.in_ok-push-in-None.ensures.items ∙ ap (λ (some : List Run). some ++ record { end = c.args.end; word = c.args.word } ∷ []) same))
    (run_more start c.args.end c.args.word words more is c.args.runs.now.items so_far)

pub returns-in-Some : goal.returns-in-Some
returns-in-Some c = on_ok_weaker c.push_after.result (λ h start words so_far more is. h start words (subst (AreRunsTo start words) c.in-Some.ensures.items so_far) more is) c.push_after.ensures
