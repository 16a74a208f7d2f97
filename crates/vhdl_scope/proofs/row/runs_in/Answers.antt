-- One word more; at the end all are told.
use Rattle.std.proofs.Common.{◌≡◌, ◌<◌, ◌≤◌, ℕ, List, ap, arith, get_or, length, refl, subst, sym}
use Rattle.vhdl_scope.specs.declared.row.Run.{Run}
use Rattle.vhdl_scope.specs.Rows.{AreRunsTo}
use Rattle.vhdl_scope.proofs.RowLemmas.{runs_none, words_are}
use Rattle.vhdl_scope.proofs.row.runs_in.Goals as goal

pub loop-at-init : goal.loop-at-init
loop-at-init c = subst (λ (some : List Run). AreRunsTo 0 (λ at. get_or c.args.words.now at 0) some) (sym c.new-runs.ensures.items) (runs_none (λ at. get_or c.args.words.now at 0))

pub loop-at-preserved : goal.loop-at-preserved
loop-at-preserved c =
    c.in_ok-push_run.ensures c.loop-at.at (λ at. get_or c.args.words.now at 0) c.loop-at.invariant (omega arith)
    (λ at after below. let same : at ≡ c.loop-at.at = omega arith in ap (λ (n : ℕ). get_or c.args.words.now n 0) same)

pub returns : goal.returns
returns c = words_are c.args.words.now c.loop-at.runs.items (λ at within. c.loop-at.invariant.told 0 at (omega (arith, c.loop-at-test.false)))
