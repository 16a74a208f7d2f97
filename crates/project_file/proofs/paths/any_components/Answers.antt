-- What remains to be proved of `any_components`.
use Rattle.std.proofs.Common.{◌≡◌, ◌-◌, length, ◌∙◌, subst, arith}
use Rattle.std.proofs.lemmas.List.{length-set}
use Rattle.project_file.specs.PathRows.{IsRowFrom, any_end}
use Rattle.project_file.proofs.PathSteps.{any_step, one_down, row_from}
use Rattle.project_file.proofs.paths.any_components.Goals as goal

pub loop-j-preserved : goal.loop-j-preserved
loop-j-preserved c =
    let down = one_down c.loop-j.j (length c.args.components.now) c.loop-j.invariant.within (omega (arith, c.loop-j-test.true)) in
    record {
      within = omega (arith, down.0);
      long = length-set c.loop-j.row (c.loop-j.j - 1) c.either.result ∙ c.loop-j.invariant.long;
      row = λ test is.
          any_step test c.args.components.now c.loop-j.row (c.loop-j.j - 1) c.either.result down.0 c.either.ensures (subst (λ n. IsRowFrom test (any_end test) c.args.components.now n c.loop-j.row) down.1 (c.loop-j.invariant.row test is));
    }

pub returns : goal.returns
returns c = λ test is.
    let none : c.loop-j.j ≡ 0 = omega (arith, c.loop-j-test.false) in
    row_from test (any_end test) c.args.components.now c.loop-j.row (subst (λ n. IsRowFrom test (any_end test) c.args.components.now n c.loop-j.row) none (c.loop-j.invariant.row test is))
