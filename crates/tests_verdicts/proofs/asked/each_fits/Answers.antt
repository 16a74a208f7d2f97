-- One run more.
use Rattle.std.proofs.Common.{◌≤◌, length, All, subst, arith}
use Rattle.std.proofs.lemmas.List.{take_all}
use Rattle.std.proofs.lemmas.List.Elements.{All-more}
use Rattle.testbench_runs.specs.Runs.{FitsRun}
use Rattle.tests_verdicts.proofs.asked.each_fits.Goals as goal

pub loop-run-preserved : goal.loop-run-preserved
loop-run-preserved c =
    All-more FitsRun c.args.runs.now c.loop-run.run-index c.run-item.result c.loop-run-test.true c.loop-run.invariant
    (subst FitsRun c.run-item.is (c.fits.ensures c.if-not-fits.false))

pub returns : goal.returns
returns c = λ yes.
    let all : length c.args.runs.now ≤ c.loop-run.run-index = omega (arith, c.loop-run-test.false) in
    subst (All FitsRun) (take_all c.loop-run.run-index c.args.runs.now all) c.loop-run.invariant
