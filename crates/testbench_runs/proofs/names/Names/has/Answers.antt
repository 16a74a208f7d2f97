-- What remains to be proved of `has`.
use Rattle.std.proofs.Common.{ℕ, List, ap, ◌∙◌}
use Rattle.testbench_runs.specs.Verdicts.{has_case}
use Rattle.testbench_runs.proofs.NameSets.{finds}
use Rattle.testbench_runs.proofs.names.Names.has.Goals as goal

pub returns : goal.returns
returns c = c.contains.ensures ∙ finds c.args.name.now c.self.inside.set.keys ∙ ap (λ (names : List (List ℕ)). has_case names c.args.name.now) c.self.view_is
