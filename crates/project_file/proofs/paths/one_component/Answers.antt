-- What remains to be proved of `one_component`.
use Rattle.std.proofs.Common.{◌∙◌, arith}
use Rattle.std.proofs.lemmas.List.{length-set}
use Rattle.testbench_select.specs.Segments.{is_match}
use Rattle.project_file.proofs.PathSteps.{one_step, one_last}
use Rattle.project_file.proofs.paths.one_component.Goals as goal

pub loop-j-preserved : goal.loop-j-preserved
loop-j-preserved c = record {
  within = omega (arith, c.loop-j-test.true);
  long = length-set c.loop-j.row c.loop-j.j c.also.result ∙ c.loop-j.invariant.long;
  row = λ test is. one_step (is_match c.args.pattern.now) test c.args.components.now c.loop-j.row c.loop-j.j _ c.also.result c.loop-j-test.true c.also.ensures (c.loop-j.invariant.row test is);
}

pub returns : goal.returns
returns c = λ test is. one_last (is_match c.args.pattern.now) test c.args.components.now c.loop-j.row c.loop-j.j c.loop-j.invariant.within c.loop-j-test.false (c.loop-j.invariant.row test is)
