-- What remains to be proved of `put_runs`.
use Rattle.std.proofs.Common.{List, ℕ}
use Rattle.testbench_runs.specs.declared.ends.RunEnd.{RunEnd}
use Rattle.testbench_runs.specs.declared.runs.TestRun.{TestRun}
use Rattle.report.specs.Junit.{run_elements}
use Rattle.report.proofs.Walks.{pair_put, pairs_end}
use Rattle.report.proofs.xml.put_runs.Goals as goal

abbrev elements : TestRun × RunEnd → List ℕ
elements both = run_elements both.0 both.1

pub loop-i-preserved : goal.loop-i-preserved
loop-i-preserved c =
    pair_put elements c.args.runs.now c.args.ends.now c.loop-i.i c.min-count.result c.min-count.ensures c.index-runs-i.result c.index-ends-i.result c.index-ends-i.result _ c.loop-i.out.items c.put_run.new.out.items
    c.loop-i-test.true c.index-runs-i.is c.index-ends-i.is c.loop-i.invariant c.in_ok-put_run.ensures

pub returns : goal.returns
returns c = pairs_end elements c.args.runs.now c.args.ends.now c.loop-i.i c.min-count.result c.min-count.ensures _ c.loop-i.out.items c.loop-i-test.false c.loop-i.invariant
