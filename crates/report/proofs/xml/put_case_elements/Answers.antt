-- What remains to be proved of `put_case_elements`.
use Rattle.std.proofs.Common.{◌++◌, List, ℕ, get_or, refl, ap, ◌∙◌}
use Rattle.testbench_runs.specs.declared.ends.Verdict.{Verdict}
use Rattle.testbench_runs.specs.declared.ends.Verdict.TheVariants.{Passed}
use Rattle.testbench_runs.specs.declared.runs.TestRun.{TestRun}
use Rattle.report.specs.Junit.{case_element}
use Rattle.report.proofs.Walks.{pair_put, pairs_end}
use Rattle.report.proofs.xml.put_case_elements.Goals as goal

abbrev element : TestRun → List ℕ × Verdict → List ℕ
element run both = case_element run both.0 both.1

pub loop-i-preserved : goal.loop-i-preserved
loop-i-preserved c =
    let verdict : Verdict = get_or c.args.verdicts.now c.loop-i.i Passed in
    pair_put (element c.args.run.now) c.args.names.now c.args.verdicts.now c.loop-i.i c.min-count.result c.min-count.ensures c.index-names-i.result verdict Passed _ c.loop-i.out.items c.put_case_element.new.out.items
    c.loop-i-test.true c.index-names-i.is refl c.loop-i.invariant (c.in_ok-put_case_element.ensures ∙ ap (λ (n : List ℕ). c.loop-i.out.items ++ case_element c.args.run.now n verdict) c.bytes-name.ensures)

pub returns : goal.returns
returns c = pairs_end (element c.args.run.now) c.args.names.now c.args.verdicts.now c.loop-i.i c.min-count.result c.min-count.ensures _ c.loop-i.out.items c.loop-i-test.false c.loop-i.invariant
