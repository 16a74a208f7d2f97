-- The run goes on, or there is one more.
use Rattle.std.proofs.Common.{◌≡◌, ◌∷◌, ◌++◌, ◌∙◌, [], List, ap, subst, sym}
use Rattle.vhdl_scope.specs.declared.row.Run.{Run}
use Rattle.vhdl_scope.specs.Rows.{AreRunsTo}
use Rattle.vhdl_scope.proofs.RowLemmas.{run_longer, run_more}
use Rattle.vhdl_scope.proofs.row.push_after.Goals as goal

pub returns-then-last-word : goal.returns-then-last-word
returns-then-last-word c start words so_far more is =
    subst (AreRunsTo c.args.end words) (sym c.in_ok-push.ensures.items) (run_longer start c.args.end c.args.word words more is c.args.runs.now.items c.args.last c.if-last-word.true so_far)

pub returns : goal.returns
returns c start words so_far more is =
    subst (AreRunsTo c.args.end words) (sym (c.in_ok-push-3.ensures.items ∙ ap (λ (some : List Run). some ++ record { end = c.args.end; word = c.args.word } ∷ []) c.in_ok-push-2.ensures.items))
    (run_more start c.args.end c.args.word words more is (c.args.runs.now.items ++ c.args.last ∷ []) so_far)
