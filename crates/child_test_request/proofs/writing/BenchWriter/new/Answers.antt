-- What remains to be proved of `new`: the configuration and the results path have a spelling.
use Rattle.std.proofs.Common.{ℕ, ◌<◌, ◌^◌, List, length, sym, subst, ◌∙◌}
use Rattle.child_test_request.proofs.Sizes.{configuration_short, results_short}
use Rattle.child_test_request.proofs.writing.BenchWriter.new.Goals as goal

pub text-requires-4 : goal.text-requires-4
text-requires-4 c = subst (λ (text : List ℕ). length text < 2 ^ 32) (sym (c.bytes-4.ensures ∙ c.in_ok-configuration.ensures)) (configuration_short c.args.run.now c.requires)

pub text-requires-5 : goal.text-requires-5
text-requires-5 c = subst (λ (text : List ℕ). length text < 2 ^ 32) (sym (c.bytes-5.ensures ∙ c.in_ok-results.ensures)) (results_short c.args.run.now c.requires)
