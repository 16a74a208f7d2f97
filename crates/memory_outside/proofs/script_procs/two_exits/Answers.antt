use Rattle.std.proofs.Common.{◌≡◌, sym, subst, rules}
use Rattle.std.specs.Prelude.{IfSome, option_copied}
use Rattle.base.specs.declared.child.Request.{Request}
use Rattle.outside.specs.Children.{FitsExit}
use Rattle.memory_outside.specs.Scripts.{answer_of}
use Rattle.memory_outside.proofs.TableLemmas.{answer_fits, exit_has_path}
use Rattle.memory_outside.proofs.script_procs.two_exits.Goals as goal

pub returns-in_ok-kept-in-Some-clause-sizes : goal.returns-in_ok-kept-in-Some-clause-sizes
returns-in_ok-kept-in-Some-clause-sizes c =
    subst FitsExit (sym c.in_ok-exit-in-Some.ensures) (answer_fits c.args.answers.now c.in-Some.request.now c.requires)

pub returns-in_ok-kept-in-Some-clause-results : goal.returns-in_ok-kept-in-Some-clause-results
returns-in_ok-kept-in-Some-clause-results c =
    let given : IfSome (option_copied c.args.request) (λ (r : Request). c.in_ok-exit-in-Some.exit ≡ answer_of c.args.answers.now r) = search rules in
    exit_has_path c.args.answers.now (option_copied c.args.request) c.in_ok-exit-in-Some.exit c.requires given
