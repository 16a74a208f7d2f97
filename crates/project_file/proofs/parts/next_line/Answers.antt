-- What remains to be proved of `next_line`.
use Rattle.std.proofs.Common.{◌∷◌, ap, sym, ◌∙◌, List, ℕ}
use Rattle.std.specs.Str.Lines.{lines}
use Rattle.project_file.proofs.Splits.{lines_first}
use Rattle.project_file.proofs.parts.next_line.Goals as goal

pub returns-in-Some-clause-lines : goal.returns-in-Some-clause-lines
returns-in-Some-clause-lines c = lines_first c.args.bytes.now c.in-Some.line.now c.in-Some.rest.now c.in-Some.ensures.parts ∙ ap (λ (line : List ℕ). line ∷ lines c.in-Some.rest.now) (sym c.without_return.ensures)
