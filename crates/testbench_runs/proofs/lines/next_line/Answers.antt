-- What remains to be proved of `next_line`.
use Rattle.std.proofs.Common.{ℕ, List, [], ◌∷◌, sym, ap, ◌∙◌}
use Rattle.std.proofs.lemmas.List.{take_rest}
use Rattle.testbench_runs.proofs.Sayings.{one_line, first_line}
use Rattle.testbench_runs.proofs.lines.next_line.Goals as goal

pub returns-in-None-clause-lines : goal.returns-in-None-clause-lines
returns-in-None-clause-lines c = one_line c.args.text.now (sym c.in-None.ensures) ∙ ap (λ (line : List ℕ). line ∷ []) (sym c.without_return.ensures)

pub returns-in-Some-clause-lines : goal.returns-in-Some-clause-lines
returns-in-Some-clause-lines c = rw (take_rest, c.without_return-in-Some.ensures) (first_line c.args.text.now c.in-Some.at (sym c.in-Some.ensures))
