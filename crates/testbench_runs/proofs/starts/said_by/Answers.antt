-- What remains to be proved of `said_by`.
use Rattle.std.proofs.Common.{ℕ, List, [], ◌∷◌, Option, sym, ap, subst, ◌∙◌}
use Rattle.std.specs.Borrow.{Bor}
use Rattle.testbench_runs.specs.Verdicts.{result_lines}
use Rattle.testbench_runs.specs.Lines.{lines_of_rest}
use Rattle.testbench_runs.specs.Starts.{Adds}
use Rattle.testbench_runs.proofs.Sayings.{adds_both}
use Rattle.testbench_runs.proofs.starts.said_by.Goals as goal

pub returns-in-None : goal.returns-in-None
returns-in-None c =
    let line : List ℕ = c.next_line.result.0.now in
    let lines = c.next_line.ensures.lines ∙ ap (λ (rest : Option (Bor (List ℕ))). line ∷ lines_of_rest rest) c.in-None.is in
    c.lines.invariant c.take.new.self (subst (λ (l : List (List ℕ)). Adds c.args.cases.now l c.lines.said c.take.new.self) (sym lines) c.in_ok-take.ensures)

pub lines-preserved : goal.lines-preserved
lines-preserved c = λ later more.
    let line : List ℕ = c.next_line.result.0.now in
    let lines = c.next_line.ensures.lines ∙ ap (λ (rest : Option (Bor (List ℕ))). line ∷ lines_of_rest rest) c.in-Some.is in
    let both = adds_both c.args.cases.now (line ∷ []) (result_lines c.in-Some.others.now) c.lines.said c.take.new.self later c.in_ok-take.ensures more in
    c.lines.invariant later (subst (λ (l : List (List ℕ)). Adds c.args.cases.now l c.lines.said later) (sym lines) both)
