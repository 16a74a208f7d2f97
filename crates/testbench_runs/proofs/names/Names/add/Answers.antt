-- What remains to be proved of `add`.
use Rattle.std.proofs.Common.{ℕ, ◌||◌, List, ap, ◌∙◌}
use Rattle.std.specs.Borrow.{Bor}
use Rattle.std.specs.Str.{bytes_eq}
use Rattle.testbench_runs.specs.Verdicts.{has_case}
use Rattle.testbench_runs.proofs.NameSets.{names_of, puts}
use Rattle.testbench_runs.proofs.names.Names.add.Goals as goal

pub returns : goal.returns
returns c = λ other.
    ap (λ (keys : List (Bor (List ℕ))). has_case (names_of keys) other) c.in_ok-insert.ensures.keys
    ∙ puts c.args.name other c.self.inside.set.keys
    ∙ ap (λ (names : List (List ℕ)). has_case names other || bytes_eq c.args.name.now other) c.self.view_is
